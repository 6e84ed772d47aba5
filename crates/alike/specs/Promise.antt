-- THE PROMISE OF A REWIND (document 02, request a): from an empty grid the next query, with the same calls up to its
-- finish, lists what it would have listed without the rewind, number 8 aside.
use Rattle.std.specs.Prelude.{◌≡◌, ◌≢◌, List, [], ◌∷◌, ℕ, ◌*◌}
use Rattle.collect.specs.Collect.{entries_from}
use Rattle.grid.specs.Run.{Grid, Call, rewind, Answer, call, run, answers, empty_grid}
use Rattle.runs.specs.Sweeps.{query}

-- no answer is number 8
pub data NoEight : List Answer → Type 0 where
  none_left : NoEight []
  and_none : {a : Answer} {rest : List Answer} → a.number ≢ 8 → NoEight rest → NoEight (a ∷ rest)

-- the grid after the calls cs, and after a rewind of it
abbrev pub kept : List Call → Grid
kept cs = run cs empty_grid

abbrev pub rewound : List Call → Grid
rewound cs = (call rewind (kept cs)).1

-- THE PROMISE: after any calls cs at whose end a rewind is accepted, the calls ds, refused ones and further rewinds
-- among them, are answered alike with the rewind and without it: numbers, steps and lists, in order, as long as none of
-- the answers without it is 8. The answers before the first 8 are those of a shorter list ds.
abbrev pub WoundAlike : List Call → List Call → Type 0
WoundAlike cs ds = (call rewind (kept cs)).0.number ≡ 0 → NoEight (answers ds (kept cs))
    → answers ds (rewound cs) ≡ answers ds (kept cs)

-- the list of the query in lane q, as a collection would hand it out
abbrev pub listed : Grid → ℕ → List ℕ
listed g q = entries_from g.tables.hits (256 * q) (query g q).hits

-- AND SO EVERY LANE'S LIST after the calls ds is the same: at the finish of the next query, and at every other moment.
abbrev pub WoundLists : List Call → List Call → ℕ → Type 0
WoundLists cs ds q = (call rewind (kept cs)).0.number ≡ 0 → NoEight (answers ds (kept cs))
    → listed (run ds (rewound cs)) q ≡ listed (run ds (kept cs)) q
