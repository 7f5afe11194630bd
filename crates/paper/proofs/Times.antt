-- Laws of the one test of times, `reaches`, and of the later of two ends. Everything else about times goes through these.
use mathlib.Core.Path.{◌≡◌, refl}
use mathlib.Core.Bool.{Bool, true, false, cond}
use mathlib.Core.Logic.{◌⊎◌, inl, inr}
use Prim.Native.Nat.{ℕ, ◌≤◌, ◌<◌}
use lib.IntN.{ℤ}
use lib.Signed.{le_z, lt_z}
use Rattle.lists.specs.Base.{over}
use Rattle.lists.specs.IntegerLaws.{le_z_refl, le_z_trans, lt_z_le_z, lt_z_not}
use Rattle.lists.specs.OverLaws.{over_place, over_bound}
use Rattle.paper.specs.Spans.{Table, reaches, later}
use Rattle.paper.specs.Blocks.{latest}

infix 50 ◌⊑◌
-- b is no earlier than a. A record, so that both are found from a fact about them.
pub record ◌⊑◌ (a b : ℤ) : Type 0 where
  pub le : le_z a b ≡ true

pub ⊑_refl : (a : ℤ) → a ⊑ a
⊑_refl a = record { le = le_z_refl a }

pub ⊑_trans : (a b c : ℤ) → a ⊑ b → b ⊑ c → a ⊑ c
⊑_trans a b c h k = record { le = le_z_trans a b c h.le k.le }

-- As code finds it.
pub ⊑_unless : (a b : ℤ) → lt_z b a ≡ false → a ⊑ b
⊑_unless a b h = record { le = lt_z_not b a h }

-- What reaches an end reaches a later one, and what starts earlier reaches it too.
pub reaches_later : (s : ℤ) {d e : ℤ} → d ⊑ e → reaches s d ≡ true → reaches s e ≡ true
unfolding reaches
reaches_later s {d} {e} h k = le_z_trans s d e k h.le

pub reaches-earlier : {r s : ℤ} (e : ℤ) → r ⊑ s → reaches s e ≡ true → reaches r e ≡ true
unfolding reaches
reaches-earlier {r} {s} e h k = le_z_trans r s e h.le k

-- The later of two is no earlier than either, and is one of them.
pub later_left : (a b : ℤ) → a ⊑ later a b
unfolding later
later_left a b = go (lt_z a b) refl
  where
    go : (t : Bool) → lt_z a b ≡ t → a ⊑ later a b
    go true h = rw h (record { le = lt_z_le_z a b h })
    go false h = rw h (⊑_refl a)

pub later_right : (a b : ℤ) → b ⊑ later a b
unfolding later
later_right a b = go (lt_z a b) refl
  where
    go : (t : Bool) → lt_z a b ≡ t → b ⊑ later a b
    go true h = rw h (⊑_refl b)
    go false h = rw h (⊑_unless b a h)

pub later_one : (a b : ℤ) → (later a b ≡ a) ⊎ (later a b ≡ b)
unfolding later
later_one a b = go (lt_z a b) refl
  where
    go : (t : Bool) → lt_z a b ≡ t → (later a b ≡ a) ⊎ (later a b ≡ b)
    go true h = inr (rw h)
    go false h = inl (rw h)

-- The latest end bounds every end of the block, and is one of them.
pub latest_bound : (T : Table) (b e i : ℕ) → b ≤ i → i < e → (T.span i).end ⊑ (latest T b e)
latest_bound T b e i g h =
    over_bound later (λ j. (T.span j).end) ◌⊑◌ ⊑_refl ⊑_trans later_left later_right b e i g h

pub latest_place : (T : Table) (b e : ℕ) → b < e → (i : ℕ) × (b ≤ i) × (i < e) × (latest T b e ≡ (T.span i).end)
latest_place T b e h = over_place later (λ j. (T.span j).end) later_one b e h

-- The earlier of two starts. It is no later than either.
unfoldable pub earlier : ℤ → ℤ → ℤ
earlier a b = cond (lt_z b a) b a

pub earlier_left : (a b : ℤ) → (earlier a b) ⊑ a
unfolding earlier
earlier_left a b = go (lt_z b a) refl
  where
    go : (t : Bool) → lt_z b a ≡ t → (earlier a b) ⊑ a
    go true h = rw h (record { le = lt_z_le_z b a h })
    go false h = rw h (⊑_refl a)

pub earlier_right : (a b : ℤ) → (earlier a b) ⊑ b
unfolding earlier
earlier_right a b = go (lt_z b a) refl
  where
    go : (t : Bool) → lt_z b a ≡ t → (earlier a b) ⊑ b
    go true h = rw h (⊑_refl b)
    go false h = rw h (⊑_unless a b h)

-- The earliest start of the rows b up to e. No start of the block is earlier.
abbrev pub earliest : Table → ℕ → ℕ → ℤ
earliest T b e = over earlier (λ i. (T.span i).start) b e

pub earliest_bound : (T : Table) (b e i : ℕ) → b ≤ i → i < e → (earliest T b e) ⊑ (T.span i).start
earliest_bound T b e i g h =
    over_bound earlier (λ j. (T.span j).start) (λ x y. y ⊑ x) ⊑_refl (λ x y z k l. ⊑_trans z y x l k) earlier_left earlier_right b e i g h
