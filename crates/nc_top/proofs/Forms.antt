-- Certificates, and labels with too many terms, in the form that is asked for.
use Rattle.nc_options.specs.declared.options.Form.{Form}
use Rattle.nc_options.specs.declared.options.Form.TheVariants.{Terms, Lines}
use Rattle.nc_options.specs.declared.options.MemberOptions.{MemberOptions}
use Rattle.nc_snapshot.specs.declared.outcome.Listed.{Listed}
use Rattle.nc_top.specs.Member.{IsCertified, IsCertifiedAs, IsLines, IsTerms, IsTooManyAs, IsTooManyInSum, IsTooManyTermsOf}
use Rattle.std.proofs.Common.{List, subst, sym, ℕ, ◌≡◌}

pub as_terms : (options : MemberOptions) (bytes report : List ℕ) → options.form ≡ Terms
    → IsTerms options.limit bytes report → IsCertified options bytes report
as_terms options bytes report form =
    subst (λ (f : Form). IsCertifiedAs f options.limit bytes report) (sym form)

pub as_lines : (options : MemberOptions) (bytes report : List ℕ) → options.form ≡ Lines
    → IsLines bytes report → IsCertified options bytes report
as_lines options bytes report form =
    subst (λ (f : Form). IsCertifiedAs f options.limit bytes report) (sym form)

pub as_too_many : (options : MemberOptions) (bytes report : List ℕ) (named : Listed) (terms : ℕ)
    → options.form ≡ Terms → IsTooManyInSum options.limit bytes named terms report
    → IsTooManyTermsOf options bytes named terms report
as_too_many options bytes report named terms form =
    subst (λ (f : Form). IsTooManyAs f options.limit bytes named terms report) (sym form)
