-- Where a search for a byte ends, and what a field is read as, by the ways that code takes.
use mathlib.Core.Path.{◌≡◌}
use mathlib.Core.List.{List}
use Rattle.std.specs.Prelude.{Option, None, Some}
use Prim.Native.Nat.{ℕ, ◌+◌, ◌-◌, ◌≤◌, ◌<◌}
use native.Mathlib.Omega.{arith}
use lib.Dec.{eqb}
use lib.ListN.{length, get_or}
use borrow.Author.Tests.{le-leb, lt-leb}
use Rattle.lists.specs.FirstLaws.{first_from_ge, first_from-le}
use Rattle.fields.specs.Parts.{tab_byte, part, find_from, field_as}

pub find_ge : (b : ℕ) (s : List ℕ) (a : ℕ) → a ≤ find_from b s a
unfolding find_from
find_ge b s a = first_from_ge (λ i. eqb (get_or s i 0) b) a (length s - a)

pub find_le : (b : ℕ) (s : List ℕ) (a : ℕ) → a ≤ length s → find_from b s a ≤ length s
unfolding find_from
find_le b s a h = omega (arith, first_from-le (λ i. eqb (get_or s i 0) b) a (length s - a))

module _ {A : Type 0} (read : List ℕ → Option A) (s : List ℕ) (a : ℕ) where
  -- There is no field past the end.
  pub field_none : length s < a → None ≡ field_as read s a
  unfolding field_as
  field_none h = rw (lt-leb a (length s) h)

  -- The field ends at e.
  module _ (e : ℕ) (h : a ≤ length s) (q : e ≡ find_from tab_byte s a) where
    pub field_is : (v : A) → Some v ≡ read (part s a e) → Some (v, e + 1) ≡ field_as read s a
    unfolding field_as
    field_is v r = rw (le-leb a (length s) h, ← q, ← r)

    pub field_bad : None ≡ read (part s a e) → None ≡ field_as read s a
    unfolding field_as
    field_bad r = rw (le-leb a (length s) h, ← q, ← r)
