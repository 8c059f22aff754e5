-- What is printed of a polynomial or a monomial of a setting is read again.
use Rattle.nc_text.proofs.Names.{are_names}
use Rattle.nc_text.proofs.ReadRows.{IsTextMonomial}
use Rattle.nc_text.proofs.RoundTripPolynomials.{poly_again}
use Rattle.nc_text.proofs.RoundTripRows.{mono_again, mono_text, prime_positive, prime_small}
use Rattle.nc_text.specs.Laws.{ReadsMonomials, ReadsPolynomials}
use Rattle.nc_text.specs.Rows.{mono_at}
use Rattle.std.proofs.Common.{ap, length, ◌∙◌}

pub reads_polynomials : ReadsPolynomials
reads_polynomials s f is text =
    poly_again s.setting.prime s.alphabet f (prime_positive s is) (prime_small s is)
    (are_names s.alphabet is.alphabet) text

pub reads_monomials : ReadsMonomials
reads_monomials s σ is listed left right =
    let h : IsTextMonomial s.alphabet (length s.setting.generators) σ =
    record { some = listed.0; listed = listed.1; left = left; right = right } in
    let ns = are_names s.alphabet is.alphabet in
    ap (mono_at s.alphabet (length s.setting.generators))
    (mono_text s.alphabet (length s.setting.generators) σ ns is.few h)
    ∙ mono_again s.alphabet (length s.setting.generators) σ ns h
