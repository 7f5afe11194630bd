-- What the workers require and find, on the way down the remaining folds.
use Rattle.std.specs.Prelude.{◌≡◌, List, [], ◌∷◌, ℕ, zero, suc, ◌+◌, ◌-◌, ◌≤◌, ◌<◌, length, get_or, drop, Option, None, Some}
use Rattle.paper.specs.declared.numbers.FoldSet.{FoldSet}
use Rattle.paper.specs.Sets.{choose, listing}
use Rattle.paper.specs.Handed.{handed, list_of}
use Rattle.paper.proofs.Listing.{hold}
use Rattle.paper.proofs.ListingMeaning.{Rises}

-- A set that was handed out: nothing but 0 past its folds.
abbrev pub Tidy : FoldSet → Type 0
Tidy set = set ≡ handed (list_of set)

-- Set `number` of the k-element sets of the n folds from `first` on is to go behind the folds of `set`.
pub record Rest (set : FoldSet) (first n k number : ℕ) : Type 0 where
  pub tidy : Tidy set
  pub room : set.count + k ≤ 64
  pub small : first + n ≤ 64
  pub within : number < choose n k

-- From place `at` on, `set` has folds of the n from `first` on, up to the k-th place.
pub record Tail (set : FoldSet) (k at first n : ℕ) : Type 0 where
  pub long : length (list_of set) ≡ k
  pub few : k ≤ 64
  pub place : at ≤ k
  pub small : first + n ≤ 64
  pub rises : Rises first (first + n) (drop at (list_of set))

-- r is the place of s among the sets, of its size, of the n folds from `first` on.
pub record Place (s : List ℕ) (first n r : ℕ) : Type 0 where
  pub within : r < choose n (length s)
  pub there : get_or (listing first n (length s)) r [] ≡ s

-- Path p is to be followed for fold g, one of the n from `first` on.
pub record Ahead (first n k p g : ℕ) : Type 0 where
  pub small : first + n ≤ 64
  pub low : first ≤ g
  pub high : g < first + n
  pub some : p < hold n k

-- m folds, one after another from a on.
unfoldable pub up : ℕ → ℕ → List ℕ
up a zero = []
up a (suc m) = a ∷ up (suc a) m

-- From place r on, s has the highest of the n folds.
pub record Highest (n : ℕ) (s : List ℕ) (r : ℕ) : Type 0 where
  pub place : r ≤ length s
  pub folds : drop r s ≡ up (n - (length s - r)) (length s - r)

-- The fold before them, if there is one, can rise.
pub record Turn (n : ℕ) (s : List ℕ) (r : ℕ) : Type 0 where
  pub from : Highest n s r
  pub rises : 0 < r → get_or s (r - 1) 0 + 1 + (length s - r) < n

-- The place past the one found; 0 where none was.
abbrev pub past : Option ℕ → ℕ
past None = 0
past (Some i) = i + 1
