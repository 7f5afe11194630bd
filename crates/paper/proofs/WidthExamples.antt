-- Examples of the embargo width and of fractions beside the five widths in Examples.antt: those that tell the rule from its neighbours.
-- Both sides of each equation are computed. A double is written by its bit pattern, as the machine holds it.
use mathlib.Core.Path.{◌≡◌, refl}
use mathlib.Core.Bool.{true, false}
use lib.Ieee.{binary64, of_bits}
use Rattle.paper.specs.Width.{is_fraction, width_of}

-- Two widths that hang on the last of the 53 digits.
pub record LastDigit : Type 0 where
  -- 0.5 + 2^-53: the product 1 + 2^-52 needs all 53 digits, and is a double; 52 digits would make it 1
  pub all_53_count : width_of (of_bits binary64 0x3fe0_0000_0000_0001) 2 ≡ 2
  -- 0.6666666666666667: the product 2 + 2^-52 lies halfway between two doubles, and 2 is the even one
  pub tie_to_even : width_of (of_bits binary64 0x3fe5_5555_5555_5556) 3 ≡ 2

pub last_digit : LastDigit
unfolding width_of of_bits
last_digit = record { all_53_count = refl; tie_to_even = refl }

-- The edges of [0,1).
pub record Fractions : Type 0 where
  pub zero : is_fraction (of_bits binary64 0x0000_0000_0000_0000) ≡ true
  pub minus_zero : is_fraction (of_bits binary64 0x8000_0000_0000_0000) ≡ true
  pub largest_below_one : is_fraction (of_bits binary64 0x3fef_ffff_ffff_ffff) ≡ true
  pub one : is_fraction (of_bits binary64 0x3ff0_0000_0000_0000) ≡ false
  pub infinity : is_fraction (of_bits binary64 0x7ff0_0000_0000_0000) ≡ false
  pub not_a_number : is_fraction (of_bits binary64 0x7ff8_0000_0000_0000) ≡ false
  -- -2^-1074, the largest of those below 0
  pub largest_negative : is_fraction (of_bits binary64 0x8000_0000_0000_0001) ≡ false

pub fractions : Fractions
unfolding of_bits
fractions =
    record {
      zero = refl;
      minus_zero = refl;
      largest_below_one = refl;
      one = refl;
      infinity = refl;
      not_a_number = refl;
      largest_negative = refl;
    }
