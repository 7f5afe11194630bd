-- Where a search for a byte ends: what std's search over the places says, as the first place of the definition.
use mathlib.Core.Path.{◌≡◌, sym, ◌∙◌}
use mathlib.Core.Bool.{true, false}
use mathlib.Core.List.{List}
use Prim.Native.Nat.{ℕ, ◌-◌, ◌≤◌, ◌<◌, max}
use native.Mathlib.Omega.{arith}
use lib.Dec.{eqb}
use lib.ListN.{length, get_or}
use Rattle.std.specs.Prelude.{Option, None, Some, MatchOption}
use Rattle.std.specs.Option.{unwrap_or}
use Rattle.lists.specs.FirstLaws.{first_from_at, first_from_none}
use Rattle.fields.specs.Parts.{find_from}

module _ (b : ℕ) (s : List ℕ) (a : ℕ) where
  -- Place i holds another byte.
  abbrev pub Other : ℕ → Type 0
  Other i = eqb (get_or s i 0) b ≡ false

  -- Place i holds it.
  abbrev pub Here : ℕ → Type 0
  Here i = eqb (get_or s i 0) b ≡ true

  pub find_is :
      (o : Option ℕ) →
      MatchOption o ((k : ℕ) → a ≤ k → k < length s → Other k) (λ i. (a ≤ i) × (i < length s) × Here i × ((k : ℕ) → a ≤ k → k < i → Other k)) →
      unwrap_or o (max a (length s)) ≡ find_from b s a
  unfolding find_from
  find_is None h =
      sym (first_from_none (λ i. eqb (get_or s i 0) b) a (length s - a) (λ k g l. h k g (omega arith)) ∙ omega arith)
  find_is (Some i) h =
      sym (first_from_at (λ i. eqb (get_or s i 0) b) a (length s - a) i h.0 (omega (arith, h.1)) h.2 h.3)
