-- What parts mean: joined again they are the text, and none of them holds the byte that parts them. And how a walk by places
-- meets them: the part that begins at a place ends where the search for the byte ends, and the next begins behind it.
use mathlib.Core.Path.{◌≡◌, refl, sym, ap, ◌∙◌}
use mathlib.Core.Bool.{Bool, true, false, cond}
use mathlib.Core.List.{List, [], ◌∷◌, ◌++◌}
use Rattle.std.specs.Prelude.{Option, None, Some, option_map}
use Prim.Native.Nat.{ℕ, zero, suc, ◌+◌, ◌-◌, ◌≤◌, ◌<◌}
use native.Mathlib.Numerals.{add-one}
use native.Mathlib.Omega.{arith}
use native.Mathlib.Decide.{dec_le}
use lib.Dec.{eqb}
use lib.ListN.{length, get_or, drop, drop_of_length-le}
use lib.Seq.{drop-cons}
use borrow.Author.Tests.{le-leb, lt-leb, eqb-true, eqb-false}
use Rattle.lists.specs.Base.{first_from}
use Rattle.lists.specs.FirstLaws.{first_from_ge}
use Rattle.fields.specs.Parts.{tab_byte, lf_byte, on_first, parts_of, ended, behind_last, find_from, part, parts_from, lines_from, rest_from, first_as, field_as}

-- The parts with the byte between them.
unfoldable pub joined : ℕ → List (List ℕ) → List ℕ
joined b [] = []
joined b (p ∷ []) = p
joined b (p ∷ q ∷ ps) = p ++ b ∷ joined b (q ∷ ps)

-- No byte of a part is b; no byte of any of them.
unfoldable pub Free : ℕ → List ℕ → Type 0
Free b [] = Unit
Free b (c ∷ s) = (c ≡ b → ⊥) × Free b s

unfoldable pub EachFree : ℕ → List (List ℕ) → Type 0
unfolding Free
EachFree b [] = Unit
EachFree b (p ∷ ps) = Free b p × EachFree b ps

module _ (b : ℕ) where
  on_first-joined : (c : ℕ) (ps : List (List ℕ)) → joined b (on_first c ps) ≡ c ∷ joined b ps
  unfolding joined
  on_first-joined c [] = refl
  on_first-joined c (p ∷ []) = refl
  on_first-joined c (p ∷ q ∷ ps) = refl

  -- There is always a part.
  some_part : (s : List ℕ) → (p : List ℕ) × (ps : List (List ℕ)) × (parts_of b s ≡ p ∷ ps)
  unfolding parts_of
  some_part [] = ([], [], refl)
  some_part (c ∷ s) = go (eqb c b) (some_part s)
    where
      go : (t : Bool) → ((p : List ℕ) × (ps : List (List ℕ)) × (parts_of b s ≡ p ∷ ps))
          → (p : List ℕ) × (ps : List (List ℕ)) × (cond t ([] ∷ parts_of b s) (on_first c (parts_of b s)) ≡ p ∷ ps)
      go true r = ([], parts_of b s, refl)
      go false r = (c ∷ r.0, r.1, ap (on_first c) r.2)

  pub parts_joined : (s : List ℕ) → joined b (parts_of b s) ≡ s
  unfolding parts_of joined
  parts_joined [] = refl
  parts_joined (c ∷ s) = go (eqb c b) refl (parts_joined s) (some_part s)
    where
      go : (t : Bool) → eqb c b ≡ t → joined b (parts_of b s) ≡ s → ((p : List ℕ) × (ps : List (List ℕ)) × (parts_of b s ≡ p ∷ ps))
          → joined b (cond t ([] ∷ parts_of b s) (on_first c (parts_of b s))) ≡ c ∷ s
      go true e ih r = rw r.2 (rw (eqb-true c b e) (ap (λ l. b ∷ l) (sym (ap (joined b) r.2) ∙ ih)))
      go false e ih r = on_first-joined c (parts_of b s) ∙ ap (λ l. c ∷ l) ih

  pub parts_free : (s : List ℕ) → EachFree b (parts_of b s)
  unfolding parts_of EachFree
  parts_free [] = (tt, tt)
  parts_free (c ∷ s) = go (eqb c b) refl (parts_of b s) (parts_free s)
    where
      go : (t : Bool) → eqb c b ≡ t → (ps : List (List ℕ)) → EachFree b ps → EachFree b (cond t ([] ∷ ps) (on_first c ps))
      go true e ps ih = (tt, ih)
      go false e [] ih = ((eqb-false c b e, tt), tt)
      go false e (p ∷ ps) ih = ((eqb-false c b e, ih.0), ih.1)

part_none : (s : List ℕ) (a : ℕ) → part s a a ≡ []
part_none s a = let z : a - a ≡ 0 = omega arith in rw z

part_cons : (s : List ℕ) (a e : ℕ) → a < length s → a < e → part s a e ≡ get_or s a 0 ∷ part s (suc a) e
part_cons s a e h l = let z : e - a ≡ suc (e - suc a) = omega arith in rw (drop-cons s a 0, z)

module _ (b : ℕ) (s : List ℕ) where
  pub parts_none : (a : ℕ) → length s < a → parts_from b s a ≡ []
  unfolding parts_from
  parts_none a h = rw (lt-leb a (length s) h)

  pub parts_at : (a : ℕ) → a ≤ length s → parts_from b s a ≡ parts_of b (drop a s)
  unfolding parts_from
  parts_at a h = rw (le-leb a (length s) h)

  pub parts_whole : parts_of b s ≡ parts_from b s 0
  parts_whole = sym (parts_at 0 (omega arith))

  step : (m a : ℕ) → a + m ≡ length s
      → let e = first_from (λ i. eqb (get_or s i 0) b) a m in parts_of b (drop a s) ≡ part s a e ∷ parts_from b s (e + 1)
  unfolding parts_of first_from
  step zero a q =
      let h : length s ≤ a = omega arith in
      ap (parts_of b) (drop_of_length-le s h) ∙ sym (rw (part_none s a, parts_none (a + 1) (omega arith)))
  step (suc m) a q = go (eqb (get_or s a 0) b) refl (step m (suc a) (omega arith))
    where
      h : a < length s
      h = omega arith

      go : (t : Bool) → eqb (get_or s a 0) b ≡ t
          → (let e = first_from (λ i. eqb (get_or s i 0) b) (suc a) m in parts_of b (drop (suc a) s) ≡ part s (suc a) e ∷ parts_from b s (e + 1))
          → let e = cond (eqb (get_or s a 0) b) a (first_from (λ i. eqb (get_or s i 0) b) (suc a) m) in parts_of b (drop a s) ≡ part s a e ∷ parts_from b s (e + 1)
      go true t ih =
          ap (parts_of b) (drop-cons s a 0 h) ∙ rw (t, part_none s a, parts_at (a + 1) (omega arith), add-one)
      go false t ih =
          ap (parts_of b) (drop-cons s a 0 h)
          ∙ rw (t, ih, part_cons s a (first_from (λ i. eqb (get_or s i 0) b) (suc a) m) h (first_from_ge (λ i. eqb (get_or s i 0) b) (suc a) m))

  pub parts_step : (a : ℕ) → a ≤ length s → let e = find_from b s a in parts_from b s a ≡ part s a e ∷ parts_from b s (e + 1)
  unfolding find_from
  parts_step a h = parts_at a h ∙ step (length s - a) a (omega arith)

-- The field at a place is the first of those from there on, and the place that is handed on begins the others: a walk by places
-- reads what a walk over the list of fields reads.
abbrev onward : {A : Type 0} → List ℕ → A × ℕ → A × List (List ℕ)
onward s f = (f.0, parts_from tab_byte s f.1)

module _ {A : Type 0} (read : List ℕ → Option A) (s : List ℕ) (a : ℕ) where
  field_walk : option_map (onward s) (field_as read s a) ≡ first_as read (parts_from tab_byte s a)
  unfolding field_as
  field_walk = go (dec_le a (length s))
    where
      same : (o : Option A) (k : ℕ)
          → option_map (onward s) (option_map (λ v. (v, k)) o)
          ≡ option_map (λ v. (v, parts_from tab_byte s k)) o
      same None k = refl
      same (Some v) k = refl

      go : Dec (a ≤ length s) → option_map (onward s) (field_as read s a) ≡ first_as read (parts_from tab_byte s a)
      go (yes h) =
          rw (parts_step tab_byte s a h, le-leb a (length s) h) (same (read (part s a (find_from tab_byte s a))) (find_from tab_byte s a + 1))
      go (no g) = rw (parts_none tab_byte s a (omega arith), lt-leb a (length s) (omega arith))

  pub field_read : (v : A) (next : ℕ) → Some (v, next) ≡ field_as read s a → first_as read (parts_from tab_byte s a) ≡ Some (v, parts_from tab_byte s next)
  field_read v next e = sym field_walk ∙ sym (ap (option_map (onward s)) e)

  pub field_refused : None ≡ field_as read s a → first_as read (parts_from tab_byte s a) ≡ None
  field_refused e = sym field_walk ∙ sym (ap (option_map (onward s)) e)

module _ (s : List ℕ) (a : ℕ) (h : a ≤ length s) where
  -- A line where an LF is found; else what is left is no line.
  pub lines_step : find_from lf_byte s a < length s → let e = find_from lf_byte s a in lines_from s a ≡ part s a e ∷ lines_from s (e + 1)
  unfolding ended
  lines_step l = rw (parts_step lf_byte s a h, parts_step lf_byte s (find_from lf_byte s a + 1) (omega arith))

  pub lines_none : length s ≤ find_from lf_byte s a → lines_from s a ≡ []
  unfolding ended
  lines_none l = rw (parts_step lf_byte s a h, parts_none lf_byte s (find_from lf_byte s a + 1) (omega arith))

  pub rest_step : find_from lf_byte s a < length s → rest_from s a ≡ rest_from s (find_from lf_byte s a + 1)
  unfolding behind_last
  rest_step l = rw (parts_step lf_byte s a h, parts_step lf_byte s (find_from lf_byte s a + 1) (omega arith))

  pub rest_none : length s ≤ find_from lf_byte s a → rest_from s a ≡ part s a (find_from lf_byte s a)
  unfolding behind_last
  rest_none l = rw (parts_step lf_byte s a h, parts_none lf_byte s (find_from lf_byte s a + 1) (omega arith))
