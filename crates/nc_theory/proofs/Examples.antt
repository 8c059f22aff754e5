-- The definitions compute on small inputs, and hold of small examples.
-- Among them: a leading word that overlaps itself, the leftmost of two places, a trivial syzygy,
-- and a constant whose empty leading word stands within another word.
use Rattle.nc_algebra.proofs.Words.{lighter_less}
use Rattle.nc_algebra.specs.Elements.{Setting, evaluation, generator}
use Rattle.nc_algebra.specs.Monomials.{unit_monomial}
use Rattle.nc_algebra.specs.Polynomials.{Polynomial, coefficient, leading}
use Rattle.nc_algebra.specs.Sums.{Term}
use Rattle.nc_algebra.specs.Words.{Letter, Word, compare_words}
use Rattle.nc_theory.specs.Ambiguities.{Ambiguity}
use Rattle.nc_theory.specs.Divisors.{IsChosenDivisor}
use Rattle.nc_theory.specs.States.{Entry, Start}
use Rattle.nc_theory.specs.Syzygies.{TrivialSyzygy}
use Rattle.std.proofs.Common.{Greater, Less, [], arith, lit<, inl, inr, refl, ℕ, ◌%◌, ◌∷◌, ◌≡◌}

abbrev term : ℕ → Word → Term Word
term c w = record { coefficient = c; key = w }

abbrev x : Letter
x = record { index = 0; extra = 0 }

abbrev y : Letter
y = record { index = 1; extra = 0 }

-- a letter of index 2 and weight 3
abbrev heavy : Letter
heavy = record { index = 2; extra = 2 }

-- 3 xy + 98 xy + 5 y + 2 x, modulo 101
f : Polynomial
f = term 3 (x ∷ y ∷ []) ∷ term 98 (x ∷ y ∷ []) ∷ term 5 (y ∷ []) ∷ term 2 (x ∷ []) ∷ []

its_lead : leading 101 f ≡ y ∷ []
unfolding leading f
its_lead = refl

cancelled : coefficient f (x ∷ y ∷ []) % 101 ≡ 0
unfolding f
cancelled = refl

shorter : compare_words (y ∷ []) (x ∷ x ∷ []) ≡ Less
shorter = refl

later : compare_words (x ∷ y ∷ []) (x ∷ x ∷ []) ≡ Greater
later = refl

-- weights come before lengths
weighs_more : compare_words (heavy ∷ []) (y ∷ y ∷ []) ≡ Greater
weighs_more = refl

-- words of one weight and different lengths
of_one_weight : compare_words (x ∷ y ∷ x ∷ []) (heavy ∷ []) ≡ Less
of_one_weight = refl

small : Setting
small = record { prime = 2; generators = (term 1 (x ∷ x ∷ []) ∷ []) ∷ [] }

-- x f_1 y, with f_1 = xx
multiple : evaluation small (record {
  coefficient = 1;
  key = record { left = x ∷ []; generator = 1; right = y ∷ [] };
} ∷ [])
    ≡ term 1 (x ∷ x ∷ x ∷ y ∷ []) ∷ []
unfolding small generator
multiple = refl

square : Entry
square =
    record {
      signature = unit_monomial 1;
      polynomial = term 1 (x ∷ x ∷ []) ∷ [];
      trace = record { start = Start.a_generator 1; steps = [] };
    }

-- xx overlaps itself in xxx, with signature x [1] 1
overlap : Ambiguity small (square ∷ []) (record { left = x ∷ []; generator = 1; right = [] })
    (x ∷ x ∷ x ∷ [])
unfolding small square leading generator
overlap = record {
  high = record {
    entry = square;
    listed = (0, omega arith, refl);
    left = x ∷ [];
    right = [];
    spells = refl;
  };
  low = record {
    entry = square;
    listed = (0, omega arith, refl);
    left = [];
    right = x ∷ [];
    spells = refl;
  };
  spans_front = inr refl;
  spans_back = inl refl;
  high_begins = lit< tt;
  low_begins = lit< tt;
  below = inr (refl, inr (refl, inl (lighter_less [] (x ∷ []) (lit< tt))));
  signed = refl;
}

-- of the two places of xx in xxx the left one is chosen
leftmost : IsChosenDivisor small (square ∷ []) (λ σ. Unit {0}) (x ∷ x ∷ x ∷ []) overlap.low
unfolding small square leading generator overlap
leftmost = record { allowed = tt; least = λ e a. inr (omega (arith, e.listed.1), omega arith) }

-- xx times xx in two ways: the sides are 1 [1] xx and xx [1] 1, and the second is greater
trivial : TrivialSyzygy small (square ∷ [])
    (record { left = x ∷ x ∷ []; generator = 1; right = [] })
unfolding small square leading generator
trivial = record {
  first = square;
  first_listed = (0, omega arith, refl);
  second = square;
  second_listed = (0, omega arith, refl);
  m = [];
  greater = inr (inr (refl, inr (refl, inl (lighter_less [] (x ∷ x ∷ []) (lit< tt)))), refl);
}

-- over the generators xx and 1
with_constant : Setting
with_constant =
    record { prime = 2; generators = (term 1 (x ∷ x ∷ []) ∷ []) ∷ (term 1 [] ∷ []) ∷ [] }

one : Entry
one = record {
  signature = unit_monomial 2;
  polynomial = term 1 [] ∷ [];
  trace = record { start = Start.a_generator 2; steps = [] };
}

-- the empty leading word of 1 stands strictly inside xx, with signature x [2] x
inside : Ambiguity with_constant (square ∷ one ∷ [])
    (record { left = x ∷ []; generator = 2; right = x ∷ [] }) (x ∷ x ∷ [])
unfolding with_constant square one leading generator
inside = record {
  high = record {
    entry = one;
    listed = (1, omega arith, refl);
    left = x ∷ [];
    right = x ∷ [];
    spells = refl;
  };
  low = record {
    entry = square;
    listed = (0, omega arith, refl);
    left = [];
    right = [];
    spells = refl;
  };
  spans_front = inr refl;
  spans_back = inr refl;
  high_begins = lit< tt;
  low_begins = lit< tt;
  below = inr (refl, inl (lit< tt));
  signed = refl;
}
