-- A table of two lists, or 12; the first backward row, or none.
use Prim.{tt}
use mathlib.Core.Path.{◌≡◌, refl, sym, ap}
use mathlib.Core.Bool.{Bool, true, false, cond}
use Prim.Native.Nat.{ℕ}
use Rattle.std.specs.Option.{is_some}
use Rattle.lists.specs.AnyLaws.{never}
use mathlib.Core.List.{List, [], ◌∷◌}
use lib.IntN.{ℤ}
use lib.ListN.{length}
use Rattle.std.specs.Prelude.{Option, Some, None, MatchOption, ◌≢◌}
use Rattle.std.specs.Option.{ok_or}
use Rattle.std.proofs.lemmas.Bool.{eq-eqb, ne_eqb}
use Rattle.paper.specs.declared.refusal.Refusal.TheVariants.{LengthsDiffer}
use Rattle.paper.specs.Checks.{checked, lengths_differ}
use Rattle.spans.specs.declared.table.Table.{Table}
use Rattle.checks.specs.Said.{said_checked}

pub table_or :
    (starts ends : List ℤ) (o : Option Table) →
    MatchOption o (length starts ≢ length ends) (λ t. (t.starts.now ≡ starts) × (t.ends.now ≡ ends)) →
    said_checked (ok_or o LengthsDiffer) ≡ checked (lengths_differ starts ends ∷ []) tt
unfolding checked
table_or starts ends None h = rw (ne_eqb (length starts) (length ends) h)
table_or starts ends (Some t) h =
    let e : length starts ≡ length ends = rw (h.0, h.1) at t.same in
    rw (eq-eqb (length starts) (length ends) e)

-- An `Option` that is `Some f` just where b holds.
pub some_where : (b : Bool) (f row : ℕ) → Some row ≡ cond b (Some f) None → (b ≡ true) × (row ≡ f)
some_where true f row h = (refl, cc)
some_where false f row h = absurd (let z : ◌≡◌ {A = Bool} true false = ap (λ o. is_some o) h in never refl z)

pub none_where : (b : Bool) (f : ℕ) → ◌≡◌ {A = Option ℕ} None (cond b (Some f) None) → b ≡ false
none_where true f h = absurd (let z : ◌≡◌ {A = Bool} false true = ap (λ o. is_some o) h in never refl (sym z))
none_where false f h = refl
