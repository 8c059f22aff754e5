-- Settings as texts give them: with an alphabet, and within the limits of a program.
--
-- The theory needs no names, so `Setting` has none. A text names its letters, and a report prints
-- them, so a program carries both. There may be no generator at all; then the ideal is zero.
use Rattle.nc_algebra.specs.Alphabets.{Alphabet, IsAlphabet, IsTextGenerator}
use Rattle.nc_algebra.specs.Elements.{Setting}
use Rattle.nc_algebra.specs.Primes.{is_listed_prime}
use Rattle.std.specs.Prelude.{All, IsTrue, length, ◌≤◌}

-- a setting, and the alphabet of its words
pub record NamedSetting : Type 0 where
  pub alphabet : Alphabet
  pub setting : Setting

-- a listed prime, and at most 1,000 generators over the alphabet, none of them zero
pub record IsSetting (s : NamedSetting) : Type 0 where
  pub prime : IsTrue (is_listed_prime s.setting.prime)
  pub alphabet : IsAlphabet s.alphabet
  pub few : length s.setting.generators ≤ 1000
  pub each : All (IsTextGenerator s.alphabet s.setting.prime) s.setting.generators
