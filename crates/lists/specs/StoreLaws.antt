-- An array that a loop fills place by place, upwards or downwards: what is known of the places filled so far stays known
-- with one place more. P k v says what place k must hold.
use Rattle.std.specs.Prelude.{◌≡◌, List, ℕ, ◌+◌, ◌≤◌, ◌<◌, length, get_or, set}
use Rattle.std.proofs.Common.{arith, get_or-set_same, get_or-set_other}
use Rattle.std.proofs.Math.Decide.{ℕ_discrete}

module _ {A : Type 0} (P : ℕ → A → Type 0) (l : List A) (d : A) (j : ℕ) (v : A) (fits : j < length l) (here : P j v) where
  -- Place j is filled, and place k was: so it is.
  stored : (k : ℕ) → ((k ≡ j → ⊥) → P k (get_or l k d)) → P k (get_or (set l j v) k d)
  stored k old = go (ℕ_discrete k j)
    where
      go : Dec (k ≡ j) → P k (get_or (set l j v) k d)
      go (yes e) = rw (e, get_or-set_same l j v d fits) here
      go (no n) = rw (get_or-set_other l j k v d n) (old n)

  pub stored_up : ((k : ℕ) → k < j → P k (get_or l k d)) → (k : ℕ) → k < j + 1 → P k (get_or (set l j v) k d)
  stored_up old k h = stored k (λ n. old k (omega arith))

  pub stored_down :
      (n : ℕ) → ((k : ℕ) → j + 1 ≤ k → k < n → P k (get_or l k d)) → (k : ℕ) → j ≤ k → k < n → P k (get_or (set l j v) k d)
  stored_down n old k g h = stored k (λ x. old k (omega arith) h)
