use Rattle.std.proofs.Common.{rules, ◌≡◌, ◌≤◌, ◌==◌, sym, refl, ap, take, length, cond, ℕ, Bool, Some, None, nat_lt, true, false, arith}
use Rattle.std.specs.List.{position_or_len}
use Rattle.std.proofs.lemmas.Iterator.{YieldsList-from_slice}
use Rattle.std.proofs.lemmas.Iterator.Search.{position_from_yields_List}
use Rattle.std.proofs.lemmas.Bool.Decides.{nat_tests}
use Rattle.std.proofs.lemmas.List.{take_all}
use borrow.Author.Tests.{tests}
use Rattle.nc_options.proofs.fit.name_of.Goals as goal

some_place : (k at : ℕ) (b : Bool) → Some at ≡ cond b (Some k) None → at ≡ k
some_place k at true e = cc
some_place k at false e = cc

no_place : (k : ℕ) (b : Bool) → None ≡ cond b (Some k) None → b ≡ false
no_place k true e = cc
no_place k false e = refl

past : (k n : ℕ) → nat_lt k n ≡ false → n ≤ k
past k n e = grind (arith, nat_tests)

pub returns-in-Some : goal.returns-in-Some
returns-in-Some c =
    let place =
    position_from_yields_List (λ b. b == 61) _ _ (Some c.in-Some.at) c.in-Some.ensures.ran
    (YieldsList-from_slice c.args.text.now cc) (λ x b q k. search (rules, tests)) in
    ap (λ k. take k c.args.text.now) (some_place _ c.in-Some.at _ place)

pub returns-in-None : goal.returns-in-None
returns-in-None c =
    let place =
    position_from_yields_List (λ b. b == 61) _ _ None c.in-None.ensures.ran
    (YieldsList-from_slice c.args.text.now cc) (λ x b q k. search (rules, tests)) in
    sym (take_all _ c.args.text.now
    (past (position_or_len (λ b. b == 61) c.args.text.now) (length c.args.text.now)
    (no_place _ _ place)))
