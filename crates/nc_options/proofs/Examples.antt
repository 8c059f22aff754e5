-- Command lines that are written out, by computing.
use Rattle.std.proofs.Common.{◌≡◌, refl, [], ◌∷◌, Some, None, codes}
use Rattle.nc_options.specs.Options.{options_of}
use Rattle.nc_options.specs.declared.options.Cofactors.TheVariants.{Full}
use Rattle.nc_options.specs.declared.options.Options.TheVariants.{Basis, Check, Demo}

pub between : options_of (codes "demo" ∷ codes "--degree" ∷ codes "10" ∷ codes "007"
    ∷ codes "--workers=2" ∷ [])
    ≡ Some (Demo (record { number = 7; degree = 10; workers = 2; window = 64 }))
between = refl

pub any_order : options_of (codes "basis" ∷ codes "--limit=5" ∷ codes "--cofactors" ∷ codes "full"
    ∷ [])
    ≡ Some (Basis (record { workers = 1; window = 64; limit = 5; cofactors = Full }))
any_order = refl

pub alone : options_of (codes "check" ∷ []) ≡ Some Check
alone = refl

pub hyphens : options_of (codes "demo" ∷ codes "--" ∷ codes "7" ∷ []) ≡ None
hyphens = refl

pub twice : options_of (codes "basis" ∷ codes "--workers" ∷ codes "2" ∷ codes "--workers=2" ∷ [])
    ≡ None
twice = refl

pub no_value : options_of (codes "basis" ∷ codes "--limit" ∷ codes "-5" ∷ []) ≡ None
no_value = refl

pub two_numbers : options_of (codes "demo" ∷ codes "7" ∷ codes "7" ∷ []) ≡ None
two_numbers = refl

pub other_option : options_of (codes "check" ∷ codes "--workers" ∷ codes "1" ∷ []) ≡ None
other_option = refl
