-- Sides of an ambiguity in code: a signature and the words around it.
--
-- The two sides are compared without being multiplied out. Only the greater one is made, if it lies
-- within the bound.
use Rattle.nc_algebra.specs.Monomials.{Sig, sig_times}
use Rattle.nc_overlap.specs.declared.side.Side.{Side}

-- the multiple that the side stands for
abbrev pub side_sig : Side → Sig
side_sig x = sig_times x.left.now x.sig.now x.right.now
