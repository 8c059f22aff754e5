-- What a text begins with, while pieces are written behind it.
use Rattle.nc_print.specs.Begins.{BeginsWith}
use Rattle.std.proofs.Common.{Bool, Err, List, Ok, Result, ap, append_assoc, drop, false, if◌then◌else◌, length, subst, sym, take, true, ℕ, ◌++◌, ◌∙◌, ◌≡◌}
use Rattle.std.proofs.lemmas.List.{take-append-drop}
use Rattle.std.specs.Result.{OnErr, OnOk}
use Rattle.std.proofs.Math.Seq.{take-append_seam, take-length}

-- a text begins with itself
pub begins_same : (text : List ℕ) → BeginsWith text text
unfolding BeginsWith
begins_same text = take-length text

begins_piece : (old piece new : List ℕ) → new ≡ old ++ piece → BeginsWith new old
unfolding BeginsWith
begins_piece old piece new is = ap (take (length old)) is ∙ take-append_seam old piece

-- a text that begins with one that begins with another
pub begins_further : (old mid new : List ℕ) → BeginsWith new mid → BeginsWith mid old
    → BeginsWith new old
unfolding BeginsWith
begins_further old mid new second first =
    let rest = drop (length old) mid ++ drop (length mid) new in
    begins_piece old rest new (sym (take-append-drop (length mid) new)
    ∙ ap (λ (l : List ℕ). l ++ drop (length mid) new)
    (second ∙ sym (take-append-drop (length old) mid))
    ∙ append_assoc (take (length old) mid) (drop (length old) mid) (drop (length mid) new)
    ∙ ap (λ (l : List ℕ). l ++ rest) first)

-- one more piece
pub begins_more : (old mid piece new : List ℕ) → new ≡ mid ++ piece → BeginsWith mid old
    → BeginsWith new old
begins_more old mid piece new is first =
    begins_further old mid new (begins_piece mid piece new is) first

-- one more piece, or none
pub begins_maybe : (old mid piece new : List ℕ) (b : Bool)
    → new ≡ (if b then mid ++ piece else mid) → BeginsWith mid old → BeginsWith new old
begins_maybe old mid piece new true is first = begins_more old mid piece new is first
begins_maybe old mid piece new false is first = rw is first

-- three pieces by calls of their own between a first piece and a last one, or none
pub begins_in_a_row : (old first headed set claimed listed last new : List ℕ) (b : Bool)
    → headed ≡ old ++ first → BeginsWith set headed → BeginsWith claimed set
    → BeginsWith listed claimed → new ≡ (if b then listed ++ last else listed) → BeginsWith new old
begins_in_a_row old first headed set claimed listed last new b heads sets claims lists ends =
    begins_maybe old listed last new b ends (begins_further old claimed listed lists
    (begins_further old set claimed claims (begins_further old headed set sets
    (begins_more old old first headed heads (begins_same old)))))

-- what a call that writes piece after piece needs
pub ruleset begins = (begins_same, begins_more, begins_maybe, begins_further)

-- ---- what was appended, and is taken back where it is not the whole

whole_of : {T E : Type 0} (result : Result T E) (old mid new text : List ℕ)
    → OnOk result (mid ≡ old ++ text) → OnOk result (new ≡ mid) → OnOk result (new ≡ old ++ text)
whole_of (Ok r) old mid new text is last = last ∙ is
whole_of (Err r) old mid new text is last = tt

-- the whole
pub whole : {T E : Type 0} (appended result : Result T E) (old mid new text : List ℕ)
    → result ≡ appended → OnOk appended (mid ≡ old ++ text) → OnOk result (new ≡ mid)
    → OnOk result (new ≡ old ++ text)
whole {T} {E} appended result old mid new text same is last =
    whole_of result old mid new text
    (subst (λ (r : Result T E). OnOk r (mid ≡ old ++ text)) (sym same) is) last

-- nothing
pub nothing : {T E : Type 0} (result : Result T E) (old mid new : List ℕ) (before : ℕ)
    → before ≡ length old → BeginsWith mid old → OnErr result (new ≡ take before mid)
    → OnErr result (new ≡ old)
unfolding BeginsWith
nothing (Ok r) old mid new before is begins last = tt
nothing (Err r) old mid new before is begins last =
    last ∙ ap (λ (n : ℕ). take n mid) is ∙ begins

-- what a call that writes a whole text needs
pub ruleset whole_or_nothing = (whole, nothing)
