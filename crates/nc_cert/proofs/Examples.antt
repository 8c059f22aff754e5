-- The charges of a certificate of three lines, which was worked out by hand.
use Rattle.nc_algebra.specs.Certificates.{Factor, Line, line_value}
use Rattle.nc_algebra.specs.Elements.{Setting, generator}
use Rattle.nc_algebra.specs.Polynomials.{normal_form, with_term}
use Rattle.nc_algebra.specs.Words.{Word}
use Rattle.nc_cert.specs.Beyond.{first_beyond}
use Rattle.nc_cert.specs.Charges.{charges_after, charges_of, total}
use Rattle.std.proofs.Common.{List, None, Some, [], refl, ◌∷◌, ◌≡◌}

abbrev x : Word
x = record { index = 0; extra = 0 } ∷ []

abbrev y : Word
y = record { index = 1; extra = 0 } ∷ []

-- x x - y over the field 101
abbrev setting : Setting
setting =
    record {
      prime = 101;
      generators = (record {
        coefficient = 1;
        key = record { index = 0; extra = 0 } ∷ x;
      } ∷ record { coefficient = 100; key = y } ∷ [])
          ∷ [];
    }

-- f, then x V(1) - V(1) x, then -V(2)
abbrev lines : List Line
lines =
    (record { coefficient = 1; left = []; of = Factor.a_generator 1; right = [] } ∷ [])
    ∷ (record {
      coefficient = 1;
      left = x;
      of = Factor.a_line 1;
      right = [];
    } ∷ record {
      coefficient = 100;
      left = [];
      of = Factor.a_line 1;
      right = x;
    } ∷ [])
    ∷ (record { coefficient = 100; left = []; of = Factor.a_line 2; right = [] } ∷ [])
    ∷ []

-- 5 for the first part, 7 for each of the next two, and 6 for the last one, whose line has two
-- words of two letters
charge : total (charges_of setting lines) ≡ 25
unfolding charges_after line_value normal_form with_term generator
charge = refl

-- with a limit of 24 the last part is too much, and with 25 none is
limits : (first_beyond 24 0 (charges_of setting lines) ≡ Some (record { line = 3; amount = 25 }))
    × (first_beyond 25 0 (charges_of setting lines) ≡ None)
unfolding charges_after line_value normal_form with_term generator
limits = (refl, refl)
