use Rattle.nc_theory.proofs.Plays.{abandons_unique, claims_unique, submits_unique}
use Rattle.nc_theory.proofs.desk_laws.answers_are_determined.Goals as goal

pub returns : goal.returns
returns c P d = (
  λ a b x y p q. claims_unique P.problem d a x p b y q,
  λ t w a b x y p q. submits_unique P d t w a x p b y q,
  λ t a b x y p q. abandons_unique d t a x p b y q,
)
