use Rattle.std.proofs.Common.{rules, ◌≡◌, ◌∙◌, ◌-◌, ap, subst, sym, true, [], map, drop, length, take, List, ℕ, Bool, Bor, Option, None, Err, string_bytes, inl, inr, arith}
use Rattle.std.specs.List.{list_all}
use Rattle.std.proofs.lemmas.List.{length-map}
use Rattle.nc_options.specs.Uses.{Use}
use Rattle.nc_options.specs.Fit.{is_fit, are_fit_and_single}
use Rattle.nc_options.specs.Pieces.{Text}
use Rattle.nc_options.specs.Commands.{command_for}
use Rattle.clap.specs.declared.error.ErrorKind.TheVariants.{OutOfMemory}
use Rattle.nc_options.proofs.Fitting.{not_plain, plain_fit}
use Rattle.nc_options.proofs.Caller.{after_first_word, taken, refused}
use Rattle.clap.specs.Words.{app_of, found_of, kind_of, HasKind}
use Rattle.clap.specs.Kinds.{Kinds, IsAmong}
use Rattle.clap.specs.declared.Error.{Error}
use Rattle.nc_options.specs.Answers.{AnswersUses, IsCause}
use Rattle.nc_options.specs.declared.error.OptionsError.{OptionsError}
use Rattle.nc_options.specs.declared.error.OptionsError.TheVariants.{Usage, Memory}
use Rattle.nc_options.proofs.split.split_words.Goals as goal

-- an error by its cause
by_cause : (o : Option (List Use)) (e : Error) (r : OptionsError) → IsCause e r
    → ((kind_of e ≡ OutOfMemory → ⊥) → o ≡ None) → AnswersUses o (Err r)
by_cause o e Usage h g = g h
by_cause o e (Memory m) h g = tt

-- an error that isn't for want of memory comes only where a kind does
has_fault : (e : Error) (ks : Kinds) → (kind_of e ≡ OutOfMemory → ⊥) → HasKind ks e → ks ≡ [] → ⊥
has_fault e ks other has none = elim has [
  | inl m ↦ other m
  | inr among ↦ subst (IsAmong (kind_of e)) none among
]

-- words that passed the test are fit
words_fit : {X : Type 0} (names : List Text) (bytes : X → Text) (words : List X) (b : Bool)
    → b ≡ are_fit_and_single names (map bytes (take (length words - 1) (drop 1 words))) → b ≡ true
    → list_all (is_fit names) (drop 1 (map bytes words)) ≡ true
words_fit names bytes words b is passed =
    plain_fit names (drop 1 (map bytes words))
    (ap (are_fit_and_single names) (sym (after_first_word bytes words)) ∙ sym is ∙ passed)

pub returns-then-not-are_fit_and_single : goal.returns-then-not-are_fit_and_single
returns-then-not-are_fit_and_single c =
    let names = map (λ (n : Bor (List ℕ)). n.now) c.args.names.now in
    not_plain names c.args.takes_number (drop 1 (map string_bytes c.args.words.now))
    (ap (are_fit_and_single names) (sym (after_first_word string_bytes c.args.words.now))
    ∙ sym c.are_fit_and_single.ensures ∙ c.if-not-are_fit_and_single.true)

pub returns-in-Ok : goal.returns-in-Ok
returns-in-Ok c =
    let names = map (λ (n : Bor (List ℕ)). n.now) c.args.names.now in
    let words = map string_bytes c.args.words.now in
    let fit =
    words_fit names string_bytes c.args.words.now _ c.are_fit_and_single.ensures
    c.if-not-are_fit_and_single.false in
    let app : app_of c.in_ok-command.command ≡ command_for c.args.name.now names
    c.args.takes_number = search rules in
    taken c.args.name.now names c.args.takes_number (app_of c.in_ok-command.command) words
    (found_of c.in-Ok.matches)
    (simp length-map (omega arith)) c.requires.named c.requires.apart fit app
    (λ e. c.in-Ok.ensures.kinds e) (λ e. (c.in-Ok.ensures.matches e).0)

pub returns-in-Err : goal.returns-in-Err
returns-in-Err c =
    let names = map (λ (n : Bor (List ℕ)). n.now) c.args.names.now in
    let words = map string_bytes c.args.words.now in
    let fit =
    words_fit names string_bytes c.args.words.now _ c.are_fit_and_single.ensures
    c.if-not-are_fit_and_single.false in
    let app : app_of c.in_ok-command.command ≡ command_for c.args.name.now names
    c.args.takes_number = search rules in
    by_cause _ c.in-Err.error c.cause_of.result c.cause_of.ensures
    (λ other. refused c.args.name.now names c.args.takes_number (app_of c.in_ok-command.command)
    words
    (simp length-map (omega arith)) c.requires.named c.requires.apart fit app
    (λ e none. has_fault c.in-Err.error _ other (c.in-Err.ensures.kinds e) none))
