-- The trials of the table hold, each part of it computed.
use Rattle.std.specs.Prelude.{◌≡◌, refl}
use Rattle.examples.specs.Trials.{number_rows, report_rows, sweep_rows, mark_rows, account_rows, bound_rows, table}
use Rattle.examples.specs.Trials.{gives, says, Holds, both, opened}

-- each part by computing it
number_rows_lem : Holds number_rows
unfolding opened number_rows
number_rows_lem = refl

report_rows_lem : Holds report_rows
unfolding opened report_rows
report_rows_lem = refl

sweep_rows_lem : Holds sweep_rows
unfolding opened sweep_rows
sweep_rows_lem = refl

mark_rows_lem : Holds mark_rows
unfolding opened mark_rows
mark_rows_lem = refl

account_rows_lem : Holds account_rows
unfolding opened account_rows
account_rows_lem = refl

bound_rows_lem : Holds bound_rows
unfolding opened bound_rows
bound_rows_lem = refl

-- THE PROOF: every row gives what document 01 says
pub trials : gives table ≡ says table
unfolding table
trials =
    both _ bound_rows
    (both _ account_rows
    (both _ mark_rows
    (both _ sweep_rows
    (both number_rows report_rows number_rows_lem report_rows_lem)
    sweep_rows_lem)
    mark_rows_lem)
    account_rows_lem)
    bound_rows_lem
