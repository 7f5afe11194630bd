-- Counts kept beside the marks: with each mark written, the counts of the list so far move on by that mark.
use Rattle.std.specs.Prelude.{◌≡◌, ◌||◌, ℕ, ◌+◌, ◌≤◌, eqb}
use Rattle.std.proofs.Math.Path.{refl}
use Rattle.std.proofs.Common.{arith}
use Rattle.lists.specs.Base.{bit, tab, tally}
use Rattle.lists.specs.CountLaws.{count-le, count_more, tally_more, tally-tab-le}
use Rattle.paper.specs.declared.answers.Counts.{Counts}
use Rattle.paper.specs.Marks.{counts_of}
use Rattle.paper.proofs.MarksMeaning.{two_tallies}

-- Nothing counted.
abbrev pub no_counts : Counts
no_counts = record { train = 0; test = 0; purged = 0; embargoed = 0 }

-- One mark more.
abbrev pub one_more : Counts → ℕ → Counts
one_more c m =
    record {
      train = c.train + bit (eqb m 0);
      test = c.test + bit (eqb m 1);
      purged = c.purged + bit (eqb m 2 || eqb m 4);
      embargoed = c.embargoed + bit (eqb m 3 || eqb m 4);
    }

-- No count exceeds the number of marks.
pub record AtMost (c : Counts) (n : ℕ) : Type 0 where
  pub train : c.train ≤ n
  pub test : c.test ≤ n
  pub purged : c.purged ≤ n
  pub embargoed : c.embargoed ≤ n

module _ (f : ℕ → ℕ) where
  pub counts_of_zero : counts_of (tab f 0) ≡ no_counts
  unfolding tab tally
  counts_of_zero = refl

  pair_more :
      (v w n : ℕ) → (v ≡ w → ⊥) →
      tally v (tab f (n + 1)) + tally w (tab f (n + 1)) ≡ tally v (tab f n) + tally w (tab f n) + bit (eqb (f n) v || eqb (f n) w)
  pair_more v w n h =
      rw (two_tallies v w f (n + 1) h, two_tallies v w f n h) (count_more (λ i. eqb (f i) v || eqb (f i) w) n)

  pub counts_of_more : (n : ℕ) → counts_of (tab f (n + 1)) ≡ one_more (counts_of (tab f n)) (f n)
  counts_of_more n = rw (tally_more 0 f n, tally_more 1 f n, pair_more 2 4 n (omega arith), pair_more 3 4 n (omega arith))

  pub counts_of-le : (n : ℕ) → AtMost (counts_of (tab f n)) n
  counts_of-le n =
      record {
        train = tally-tab-le 0 f n;
        test = tally-tab-le 1 f n;
        purged = two 2 4 (omega arith);
        embargoed = two 3 4 (omega arith);
      }
    where
      two : (v w : ℕ) → (v ≡ w → ⊥) → tally v (tab f n) + tally w (tab f n) ≤ n
      two v w h = rw (two_tallies v w f n h) (count-le (λ i. eqb (f i) v || eqb (f i) w) n)
