-- The numbers that words write.
use Rattle.std.specs.Prelude.{ℕ, Bool, ◌&&◌, ◌==◌, nat_le, List, [], ◌∷◌, length, Option, Some, None, if◌then◌else◌, ℤ, pos, neg_ℤ}
use Rattle.std.specs.Option.{option_map}
use Rattle.std.specs.List.{list_all}
use Rattle.std.specs.Char.{is_ascii_digit}
use Rattle.cv_text.specs.Tokens.{value_of}

-- one to ten digits
abbrev pub is_short : List ℕ → Bool
is_short word = nat_le 1 (length word) && nat_le (length word) 10 && list_all is_ascii_digit word

-- the number that one to ten digits write, where it is at most this
abbrev pub number_up_to : ℕ → List ℕ → Option ℕ
number_up_to most word = if is_short word && nat_le (value_of word) most then Some (value_of word) else None

-- STEPS
abbrev pub steps_of : List ℕ → Option ℕ
steps_of word = number_up_to 1000000000 word

-- an int: one to ten digits, with a minus before them or without
abbrev pub int_of : List ℕ → Option ℤ
int_of [] = None
int_of (c ∷ cs) = if c == 45 then option_map (λ n. neg_ℤ (pos n)) (number_up_to 2147483648 cs) else option_map (λ n. pos n) (number_up_to 2147483647 (c ∷ cs))
