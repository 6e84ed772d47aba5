-- `all` over the chunks of a list, with a test of the number at one place of a chunk, makes that test at every chunk.
use Rattle.std.proofs.Common.{◌≡◌, ℕ, ◌+◌, ◌*◌, ◌/◌, ◌<◌, ◌≤◌, Bool, true, false, List, length, Option, Some, None, sym, ap, ◌∙◌, refl, arith, IfSome, IsSomeAnd, IsTrue}
use Rattle.std.specs.Bool.{MatchBool}
use Rattle.std.specs.Fn.{Called}
use Rattle.std.specs.Iterator.Runs.{Run, SomeRun, EveryRun, YieldsRun, AllItemsGive, AnyItemGives, IsChunksExactRun}
use Rattle.std.specs.Slice.Iter.{chunks_exact_rest, chunks_exact_size, chunks_exact_steps}
use Rattle.std.specs.declared.slice.ChunksExact.{ChunksExact}
use Rattle.std.proofs.Math.Nat.{le-div_iff_mul-le}
use Rattle.std.proofs.lemmas.Option.{slice_get_cases}
use denote.Param.Members.{Mut}
use denote.Ref.{Bor}
use Rattle.base.specs.Table.{at}
use Rattle.rest.specs.Rest.{all_below}
use Rattle.rest.proofs.All.{all_from, all_fails}

abbrev Steps : ChunksExact ℕ → Option (Bor (List ℕ)) → ChunksExact ℕ → Type 0
Steps = chunks_exact_steps {A = ℕ}

module _ {F : Type 0} {g : Mut F (Bor (List ℕ) × Unit {0}) Bool} {f : F} (test : ℕ → Bool) (n i : ℕ) (xs : List ℕ) (i< : i < n)
    (answers : (x : Bor (List ℕ)) (b : Bool) (q : F) → Called g f (x, tt) b q → (q ≡ f) × (b ≡ test (at x.now i))) where
  -- the test of the number in chunk l
  abbrev tests : ℕ → Bool
  tests l = test (at xs (n * l + i))

  module _ (p : Run Steps) (chunks : IsChunksExactRun p n xs) where
    told : (k : ℕ) (o : Option (Bor (List ℕ))) (b : Bool) → p.at k ≡ o → k < p.len → IfSome o (λ x. Called g f (x, tt) b f) → tests k ≡ b
    unfolding YieldsRun
    told k None b e h w = let c = slice_get_cases p.items k in let a = p.gave.1 k in let l = p.long in grind arith
    told k (Some x) b e h w =
        let here = rw e at (chunks.2 k) in
        sym ((answers x b f w).1 ∙ ap test (here.2.2 i 0 i< ∙ ap (at xs) (grind arith)))

    told_all : (r : Bool) → MatchBool r (IsTrue p.whole × AllItemsGive p g f true) (AnyItemGives p g f false) → r ≡ all_below (length xs / n) tests
    told_all true h =
        sym (all_from tests (length xs / n) (λ k l. told k _ true refl (omega (arith, chunks.1 h.0)) (h.1 (λ a b q w. (answers a.0 b q w).0) k)))
    told_all false h =
        let w = h (λ a b q w. (answers a.0 b q w).0) in
        let few : p.len ≤ length xs / n = (le-div_iff_mul-le {k = n} (omega arith)).1 chunks.0 in
        sym (all_fails tests (length xs / n) w.0 (omega (arith, w.1)) (told w.0 _ false refl w.1 (some (p.at w.0) (λ x. Called g f (x, tt) false f) w.2)))
      where
        some : (o : Option (Bor (List ℕ))) (P : Bor (List ℕ) → Type 0) → IsSomeAnd o P → IfSome o P
        some None P h = elim h [ ]
        some (Some x) P h = h

  pub all_chunks : (s : ChunksExact ℕ) (r : Bool) → chunks_exact_rest s ≡ xs → chunks_exact_size s ≡ n
      → EveryRun Steps (λ p. 0 < chunks_exact_size p.from → IsChunksExactRun p (chunks_exact_size p.from) (chunks_exact_rest p.from))
      → SomeRun Steps s (λ p. MatchBool r (IsTrue p.whole × AllItemsGive p g f true) (AnyItemGives p g f false)) → r ≡ all_below (length xs / n) tests
  all_chunks s r e l every some =
      let p = some.0 in
      let z : chunks_exact_size p.from ≡ n = ap (λ (t : ChunksExact ℕ). chunks_exact_size t) some.1 ∙ l in
      let y : chunks_exact_rest p.from ≡ xs = ap (λ (t : ChunksExact ℕ). chunks_exact_rest t) some.1 ∙ e in
      told_all p (rw (z, y) at (every p p.seen (omega arith))) r some.2
