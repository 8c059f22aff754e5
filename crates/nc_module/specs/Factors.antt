-- What a part multiplies: the variants of the code as those of the definitions.
--
-- Code and definitions have a type each for it, and this function leads from the one to the other.
use Rattle.nc_algebra.specs.Certificates.{Factor}
use Rattle.nc_module.specs.declared.line.Of.{Of}
use Rattle.nc_module.specs.declared.line.Of.TheVariants.{Generator, Line}

-- the variants as the definitions have them
abbrev pub factor_of : Of → Factor
factor_of (Generator i) = Factor.a_generator i
factor_of (Line k) = Factor.a_line k
