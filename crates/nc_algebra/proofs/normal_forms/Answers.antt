use Rattle.nc_algebra.proofs.NormalForms.{normal_form_normal, normal_form_only, normal_form_same}
use Rattle.nc_algebra.proofs.normal_forms.Goals as goal

pub returns : goal.returns
returns c p some =
    record {
      normal = λ f. normal_form_normal p f some;
      same = normal_form_same p;
      only = λ f g n e. normal_form_only p f g some n e;
    }
