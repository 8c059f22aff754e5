-- The letters of what is left of a claim have names, so that it can be printed.
-- Its words are words of the claim or of the last value (`last_has`, `rest_has`), which are over
-- the alphabet.
use Rattle.nc_algebra.proofs.NormalForms.{normal_form_listed}
use Rattle.nc_algebra.specs.Alphabets.{IsLetterIn, IsWordIn}
use Rattle.nc_algebra.specs.Certificates.{Certificate, IsCertificate, item, lines_value, rest_of, values_of}
use Rattle.nc_algebra.specs.Polynomials.{Polynomial}
use Rattle.nc_algebra.specs.Sums.{minus, scale}
use Rattle.nc_algebra.specs.Words.{Word}
use Rattle.nc_cert.proofs.Fits.{Fits, IsWordWithin, item_fits, lines_fit}
use Rattle.nc_cert.proofs.Lines.{reaches_after}
use Rattle.std.proofs.Common.{List, [], length, ℕ, ◌*◌, ◌++◌, ◌-◌, ◌<◌, ◌∷◌}
use Rattle.std.proofs.lemmas.List.Elements.{All-from_recursion, All-weaker, recursion_from_All}
use Rattle.std.specs.List.{All, AllByRecursion}

module _ (P : Word → Type 0) where
  minus_has : (f : Polynomial) (c : ℕ) (g : Polynomial) → AllByRecursion (λ t. P t.key) f
      → AllByRecursion (λ t. P t.key) g → AllByRecursion (λ t. P t.key) (f ++ scale c g)
  minus_has [] c [] x y = tt
  minus_has [] c (t ∷ g) x y = (y.0, minus_has [] c g tt y.1)
  minus_has (t ∷ f) c g x y = (x.0, minus_has f c g x.1 y)

module _ (c : Certificate) (h : IsCertificate c) where
  value_has : (f : Polynomial) (r : ℕ) → Fits c.setting.alphabet f r
      → AllByRecursion (λ t. IsWordIn c.setting.alphabet t.key) f
  value_has [] r x = tt
  value_has (t ∷ f) r x =
      let first : IsWordWithin c.setting.alphabet r t.key =
      x.0 in (first.letters, value_has f r x.1)

  last_has : AllByRecursion (λ t. IsWordIn c.setting.alphabet t.key)
      (lines_value c.setting.setting c.lines)
  last_has =
      let values : List Polynomial = values_of c.setting.setting c.lines in
      let reaches : List ℕ = reaches_after c.setting.setting [] c.lines in
      value_has (item [] values (length c.lines)) (item 0 reaches (length c.lines))
      (item_fits c.setting.alphabet values reaches (length c.lines)
      (lines_fit c.setting h.setting [] [] c.lines tt h.lines))

  -- the words of the rest are over the alphabet
  rest_has : AllByRecursion (λ t. IsWordIn c.setting.alphabet t.key)
      (rest_of c.setting.setting c.claim c.lines)
  rest_has =
      normal_form_listed (IsWordIn c.setting.alphabet) c.setting.setting.prime
      (minus c.setting.setting.prime c.claim 1 (lines_value c.setting.setting c.lines))
      (minus_has (IsWordIn c.setting.alphabet) c.claim ((c.setting.setting.prime - 1) * 1)
      (lines_value c.setting.setting c.lines)
      (recursion_from_All (λ t. IsWordIn c.setting.alphabet t.key) c.claim h.claim.words)
      last_has)

  -- so each of its letters has a name
  pub rest_named : All (λ t. All (λ x. x.index < length c.setting.alphabet.names) t.key)
      (rest_of c.setting.setting c.claim c.lines)
  rest_named =
      All-weaker (λ t. IsWordIn c.setting.alphabet t.key)
      (λ t. All (λ x. x.index < length c.setting.alphabet.names) t.key)
      (λ t k. All-weaker (IsLetterIn c.setting.alphabet)
      (λ x. x.index < length c.setting.alphabet.names) (λ x l. l.0) t.key k)
      (rest_of c.setting.setting c.claim c.lines)
      (All-from_recursion (λ t. IsWordIn c.setting.alphabet t.key)
      (rest_of c.setting.setting c.claim c.lines) rest_has)
