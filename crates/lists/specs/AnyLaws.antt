-- Laws of `any` and `any_from`: what makes them true or false, what they give back, and the turns of a search.
use Rattle.std.specs.Prelude.{◌≡◌, refl, Bool, true, false, ◌||◌, ◌&&◌, ℕ, zero, suc, ◌+◌, ◌-◌, ◌≤◌, ◌<◌}
use Rattle.std.proofs.Common.{sym, ◌∙◌, add-one, arith}
use Rattle.std.proofs.Math.Bool.{or-true, or_comm, or_assoc}
use Rattle.std.proofs.Math.Decide.{dec_lt}
use Rattle.lists.specs.Base.{any, any_from}

-- True and false are two.
pub never : {X : Type 0} {b : Bool} → b ≡ true → b ≡ false → X
never {X} {b} t f = absurd (let y : ◌≡◌ {A = ℕ} 0 1 = let w : ◌≡◌ {A = Bool} true false = sym t ∙ f in cc in omega arith)

-- A test that passes only where another does fails with it.
pub if_not : {a b : Bool} → (a ≡ true → b ≡ true) → b ≡ false → a ≡ false
if_not {a = true} f h = never (f refl) h
if_not {a = false} f h = refl

-- The turns of a search: nothing looked at, one number more, one more that fails. A hit is `any_here`.
pub any_zero : (p : ℕ → Bool) → any p 0 ≡ false
unfolding any
any_zero p = refl

pub any_more : (p : ℕ → Bool) (n : ℕ) → any p (n + 1) ≡ any p n || p n
unfolding any
any_more p n = rw add-one

pub any_miss : (p : ℕ → Bool) (n : ℕ) → any p n ≡ false → p n ≡ false → any p (n + 1) ≡ false
any_miss p n h e = rw (any_more p n, h, e)

-- The first number apart from the others, as a list is read.
pub any_first : (p : ℕ → Bool) (n : ℕ) → any p (suc n) ≡ p 0 || any (λ i. p (suc i)) n
unfolding any
any_first p zero = or_comm false (p 0)
any_first p (suc n) = rw (any_first p n) (or_assoc (p 0) (any (λ i. p (suc i)) n) (p (suc n)))

-- A number that passes.
pub any_here : (p : ℕ → Bool) (n i : ℕ) → i < n → p i ≡ true → any p n ≡ true
unfolding any
any_here p zero i h e = absurd (omega arith)
any_here p (suc n) i h e = go (dec_lt i n) (any_here p n i)
  where
    go : Dec (i < n) → (i < n → p i ≡ true → any p n ≡ true) → any p n || p n ≡ true
    go (yes l) ih = rw (ih l e)
    go (no g) ih = let z : n ≡ i = omega arith in rw (z, e) (or-true (any p i))

-- What passes, where one does.
pub any_some : (p : ℕ → Bool) (n : ℕ) → any p n ≡ true → (i : ℕ) × (i < n) × (p i ≡ true)
unfolding any
any_some p zero h = never {b = false} h refl
any_some p (suc n) h = go (p n) refl (any_some p n)
  where
    go : (b : Bool) → p n ≡ b → (any p n ≡ true → (i : ℕ) × (i < n) × (p i ≡ true)) → (i : ℕ) × (i < suc n) × (p i ≡ true)
    go true e ih = (n, omega arith, e)
    go false e ih =
        let r = ih (last (any p n) refl) in
        (r.0, omega (arith, r.1), r.2)
      where
        last : (a : Bool) → any p n ≡ a → any p n ≡ true
        last true q = q
        last false q = never {b = any p n || p n} h (rw (q, e))

pub any_none : (p : ℕ → Bool) (n : ℕ) → ((i : ℕ) → i < n → p i ≡ false) → any p n ≡ false
unfolding any
any_none p zero h = refl
any_none p (suc n) h = rw (any_none p n (λ i l. h i (omega arith)), h n (omega arith))

-- None passes, where it is false.
pub any_each : (p : ℕ → Bool) (n i : ℕ) → any p n ≡ false → i < n → p i ≡ false
any_each p n i f l = if_not (any_here p n i l) f

pub any_ext : (p q : ℕ → Bool) (n : ℕ) → ((i : ℕ) → i < n → p i ≡ q i) → any p n ≡ any q n
unfolding any
any_ext p q zero h = refl
any_ext p q (suc n) h = rw (any_ext p q n (λ i l. h i (omega arith)), h n (omega arith))

-- Both hold, taken apart and put together.
pub both : {a b : Bool} → a && b ≡ true → (a ≡ true) × (b ≡ true)
both {a = true} {b = true} h = (refl, refl)
both {a = true} {b = false} h = never {b = false} h refl
both {a = false} {b = true} h = never {b = false} h refl
both {a = false} {b = false} h = never {b = false} h refl

-- Two tests of which each passes where the other does are the same.
pub both_ways : {a b : Bool} → (a ≡ true → b ≡ true) → (b ≡ true → a ≡ true) → a ≡ b
both_ways {a = true} {b = true} f g = refl
both_ways {a = true} {b = false} f g = sym (f refl)
both_ways {a = false} {b = true} f g = g refl
both_ways {a = false} {b = false} f g = refl

-- Behind `a &&` only what holds under a matters.
pub and_ext : (a : Bool) {b c : Bool} → (a ≡ true → b ≡ c) → a && b ≡ a && c
and_ext true f = f refl
and_ext false f = refl

-- The same of `any_from`: the numbers from b up to e.
module _ (p : ℕ → Bool) (b : ℕ) where
  pub any_from_zero : any_from p b b ≡ false
  any_from_zero = let z : b - b ≡ 0 = omega arith in rw z (any_zero (λ m. p (b + m)))

  pub any_from-here : (e i : ℕ) → b ≤ i → i < e → p i ≡ true → any_from p b e ≡ true
  any_from-here e i g h k =
      any_here (λ m. p (b + m)) (e - b) (i - b) (omega arith) (let z : b + (i - b) ≡ i = omega arith in rw z k)

  pub any_from_some : (e : ℕ) → any_from p b e ≡ true → (i : ℕ) × (b ≤ i) × (i < e) × (p i ≡ true)
  any_from_some e h =
      let r = any_some (λ m. p (b + m)) (e - b) h in
      (b + r.0, omega arith, omega (arith, r.1), r.2)

  pub any_from_miss : (e : ℕ) → b ≤ e → any_from p b e ≡ false → p e ≡ false → any_from p b (e + 1) ≡ false
  any_from_miss e h f k =
      let z : e + 1 - b ≡ e - b + 1 = omega arith in
      let y : b + (e - b) ≡ e = omega arith in
      rw z (any_miss (λ m. p (b + m)) (e - b) f (rw y k))
