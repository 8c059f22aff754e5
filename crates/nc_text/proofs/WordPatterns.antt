-- A word read by patterns is one read factor after factor.
-- Case by case, by induction on the number of tokens; the law `same_words`.
use Rattle.nc_algebra.specs.Alphabets.{Alphabet, letter_at}
use Rattle.nc_algebra.specs.Words.{Word}
use Rattle.nc_tokens.specs.declared.fault.Kind.{Kind}
use Rattle.nc_text.specs.Laws.{SameWords}
use Rattle.nc_text.specs.Patterns.{powered, word_by_patterns}
use Rattle.nc_text.specs.Reading.{after_factor, factor_at, factors_at, lengthened, letter_of}
use Rattle.nc_tokens.specs.Wanted.{exponent_at, literal_at, misplaced, name_at, ◌>>=◌}
use Rattle.nc_tokens.specs.Tokens.{Literal, Name, Power, Times, Token}
use Rattle.std.proofs.Common.{Err, List, Ok, Result, [], arith, length, refl, suc, zero, ℕ, ◌∷◌, ◌≡◌, ◌≤◌}

abbrev Read : Type 0
Read = Result (Word × List Token) Kind

abbrev ending : List Token → Word → Read
ending after w = Ok (w, after)

-- a factor of which the exponent is read
stepped : (a : Alphabet) (w : Word) (x : List ℕ) (k : ℕ) (after : List Token) (f : Word → Read)
    (more : Word × List Token → Read) → ((v : Word) → f v ≡ more (v, after))
    → (powered a w x k >>= f) ≡ ((letter_of a.names x >>= λ letter. lengthened w
    (letter_at a letter) k >>= ending after) >>= more)
stepped a w x k after f more same = by_letter (letter_of a.names x)
  where
    by_longer : (r : Result Word Kind) → (r >>= f) ≡ ((r >>= ending after) >>= more)
    by_longer (Ok v) = same v
    by_longer (Err e) = refl

    by_letter : (r : Result ℕ Kind) → ((r >>= λ letter. lengthened w (letter_at a letter) k) >>= f)
        ≡ ((r >>= λ letter. lengthened w (letter_at a letter) k >>= ending after) >>= more)
    by_letter (Ok l) = by_longer (lengthened w (letter_at a l) k)
    by_letter (Err e) = refl

missing : (a : Alphabet) (x : List ℕ) (m : Kind) (more : (Word × List Token) → Read) (f : ℕ → ℕ
    × List Token → Result (Word × List Token) Kind)
    → (letter_of a.names x >>= λ _. Err m)
    ≡ ((letter_of a.names x >>= λ letter. Err m >>= f letter) >>= more)
missing a x m more f = by_letter (letter_of a.names x)
  where
    by_letter : (r : Result ℕ Kind)
        → (r >>= λ _. Err m) ≡ ((r >>= λ letter. Err m >>= f letter) >>= more)
    by_letter (Ok l) = refl
    by_letter (Err e) = refl

word_agrees : (n : ℕ) (a : Alphabet) (w : Word) (ts : List Token) → length ts ≤ n
    → word_by_patterns a w ts ≡ factors_at n a w ts
unfolding word_by_patterns factors_at factor_at name_at exponent_at literal_at
word_agrees zero a w [] h = refl
word_agrees zero a w (t ∷ ts) h = absurd (omega arith)
word_agrees (suc n) a w (Name x ∷ Power ∷ Literal k ∷ Times ∷ ts) h =
    stepped a w x k (Times ∷ ts) (λ v. word_by_patterns a v ts)
    (λ factor. after_factor (factors_at n a) factor.0 factor.1)
    (λ v. word_agrees n a v ts (omega arith))
word_agrees (suc n) a w (Name x ∷ Power ∷ Literal k ∷ ts) h =
    stepped a w x k ts (λ v. Ok (v, ts)) (λ factor. after_factor (factors_at n a) factor.0 factor.1)
    (λ v. refl)
word_agrees (suc n) a w (Name x ∷ Power ∷ ts) h =
    missing a x (misplaced ts) (λ factor. after_factor (factors_at n a) factor.0 factor.1)
    (λ letter exponent. lengthened w (letter_at a letter) exponent.0 >>= λ longer. Ok (
      longer,
      exponent.1,
    ))
word_agrees (suc n) a w (Name x ∷ Times ∷ ts) h =
    stepped a w x 1 (Times ∷ ts) (λ v. word_by_patterns a v ts)
    (λ factor. after_factor (factors_at n a) factor.0 factor.1)
    (λ v. word_agrees n a v ts (omega arith))
word_agrees (suc n) a w (Name x ∷ ts) h =
    stepped a w x 1 ts (λ v. Ok (v, ts)) (λ factor. after_factor (factors_at n a) factor.0 factor.1)
    (λ v. refl)
word_agrees (suc n) a w ts h = refl

pub same_words : SameWords
same_words a w ts = word_agrees (length ts) a w ts (omega arith)
