-- Laws of `tab`: its length, its places, when two are equal, and a list that is filled place by place.
use Rattle.std.specs.Prelude.{◌≡◌, length, take, set}
use Rattle.std.proofs.Math.Path.{refl, ap}
use Rattle.std.proofs.Common.{sym, ◌∙◌, add-one, length-append, take_all}
use mathlib.Core.List.{List, [], ◌∷◌, ◌++◌}
use Prim.Native.Nat.{ℕ, zero, suc, ◌+◌, ◌<◌}
use native.Mathlib.Omega.{arith}
use Rattle.std.proofs.Math.Decide.{dec_lt}
use Rattle.std.proofs.Math.ListN.{get_or, get_or-append}
use Rattle.std.proofs.Math.Seq.{take-suc-set, get_or_at}
use Rattle.lists.specs.Base.{tab}

module _ {A : Type 0} (f : ℕ → A) where
  pub length-tab : (n : ℕ) → length (tab f n) ≡ n
  unfolding tab
  length-tab zero = refl
  length-tab (suc n) = rw (length-append, length-tab n) (add-one n)

  pub get_d_tab : (d : A) (n i : ℕ) → i < n → get_or (tab f n) i d ≡ f i
  unfolding tab
  get_d_tab d zero i h = absurd (omega arith)
  get_d_tab d (suc n) i h = go (dec_lt i n) (get_d_tab d n i)
    where
      go : Dec (i < n) → (i < n → get_or (tab f n) i d ≡ f i) → get_or (tab f n ++ (f n ∷ [])) i d ≡ f i
      go (yes l) ih = get_or-append (tab f n) (f n ∷ []) d i (rw (length-tab n) l) ∙ ih l
      go (no g) ih =
          let e : n ≡ i = omega arith in
          get_or_at (tab f n) (f n) [] d i (length-tab n ∙ e) ∙ ap f e

  -- A list filled up to i: nothing yet, one place more, all of it.
  pub tab_none : (l : List A) → take 0 l ≡ tab f 0
  unfolding tab
  tab_none l = refl

  pub tab_more : (l : List A) (i : ℕ) (v : A) → i < length l → take i l ≡ tab f i → v ≡ f i → take (i + 1) (set l i v) ≡ tab f (i + 1)
  unfolding tab
  tab_more l i v h t e = rw (add-one, take-suc-set, t, e)

  pub tab_all : (l : List A) (i n : ℕ) → take i l ≡ tab f i → length l ≡ n → i ≡ n → l ≡ tab f n
  tab_all l i n t e z = sym (take_all i l (omega arith)) ∙ t ∙ ap (tab f) z

-- Two functions that agree below n give the same list.
pub tab_ext : {A : Type 0} (f g : ℕ → A) (n : ℕ) → ((i : ℕ) → i < n → f i ≡ g i) → tab f n ≡ tab g n
unfolding tab
tab_ext f g zero h = refl
tab_ext f g (suc n) h = rw (tab_ext f g n (λ i l. h i (omega arith)), h n (omega arith))
