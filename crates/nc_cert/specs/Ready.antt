-- Parts whose value can be made from the values of the lines before them.
--
-- A part is ready where its factor is there, its coefficients are residues, and its products are
-- words of a length that a program can have. The rule of certificates makes each part ready when
-- its turn comes, for its reach is limited.
use Rattle.nc_algebra.specs.Certificates.{IsFactor, Part, factor_value}
use Rattle.nc_algebra.specs.Elements.{Setting}
use Rattle.nc_algebra.specs.Limits.{max_letters}
use Rattle.nc_algebra.specs.Polynomials.{AreResidues, Polynomial}
use Rattle.std.specs.Prelude.{All, List, length, ◌+◌, ◌<◌, ◌≤◌}

-- the factor is one of the generators or of these values, whose products with the two words are
-- short enough
pub record IsReadyPart (s : Setting) (values : List Polynomial) (part : Part) : Type 0 where
  pub residue : part.coefficient < s.prime
  pub factor : IsFactor s (length values) part.of
  pub residues : AreResidues s.prime (factor_value s values part.of)
  pub short : All (λ t. length part.left + length t.key + length part.right ≤ max_letters)
      (factor_value s values part.of)
