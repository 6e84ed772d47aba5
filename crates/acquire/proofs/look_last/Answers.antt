-- look_last does what `stage3` says of all tables: one law of Steps.antt for each return, by what last_tuple and lock_other answered.
use mathlib.Core.Path.{sym}
use Rattle.std.proofs.Common.{rules}
use Rattle.std.proofs.lemmas.Result.{err_from_is_err_and}
use Rattle.tables.specs.Grid.{grid}
use Rattle.acquire.proofs.Steps.{look_none, look_own, look_lost, look_back, look_took}
use Rattle.acquire.proofs.look_last.Goals as goal

pub returns-in_err-last : goal.returns-in_err-last
returns-in_err-last c ts =
    let p = err_from_is_err_and c.from_residual.result c.from_residual.ensures.1 in
    rw (p.1, p.2) (look_none (grid c.args.words.now ts) c.args.place c.args.oid c.args.owner (sym (c.in_err-last.ensures ts)))

pub returns-then-last-oid : goal.returns-then-last-oid
returns-then-last-oid c ts =
    look_own (grid c.args.words.now ts) c.args.place c.args.oid c.args.owner
    c.in_ok-last.last (sym (c.in_ok-last.ensures ts)) c.if-last-oid.true

pub returns-in-Ok : goal.returns-in-Ok
returns-in-Ok c ts =
    look_took (grid c.args.words.now ts) c.args.place c.args.oid c.args.owner
    c.in_ok-last.last (sym (c.in_ok-last.ensures ts)) c.if-last-oid.false (grid c.lock_other.new.words ts) (c.lock_other.ensures ts) c.in-Ok.is

pub returns-in-Err-Blocked : goal.returns-in-Err-Blocked
returns-in-Err-Blocked c ts =
    look_back (grid c.args.words.now ts) c.args.place c.args.oid c.args.owner
    c.in_ok-last.last (sym (c.in_ok-last.ensures ts)) c.if-last-oid.false (grid c.lock_other.new.words ts) (c.lock_other.ensures ts)
    (search rules) _ _ (c.go_back.ensures ts)

pub returns-in-Err-Corrupt : goal.returns-in-Err-Corrupt
returns-in-Err-Corrupt c ts =
    look_lost (grid c.args.words.now ts) c.args.place c.args.oid c.args.owner
    c.in_ok-last.last (sym (c.in_ok-last.ensures ts)) c.if-last-oid.false (grid c.lock_other.new.words ts) (c.lock_other.ensures ts) (search rules)
