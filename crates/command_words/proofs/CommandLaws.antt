-- What clap makes of all words is the command that they are.
use Rattle.std.proofs.Common.{◌≡◌, ◌∙◌, ℕ, ◌&&◌, ◌||◌, Bool, true, false, cond, List, [], ◌∷◌, ◌++◌, length, Option, Some, None, is_some, refl, sym, ap, subst, inl, inr, append_assoc, append-nil, codes, fold}
use Rattle.std.specs.Option.{option_map, option_map_or}
use Rattle.std.specs.Prelude.{option_and_then, slice_get, if◌then◌else◌}
use Rattle.std.specs.Str.{bytes_eq, chars}
use Rattle.clap.specs.Lexer.{long_of, short_of}
use Rattle.clap.specs.Walk.{Held, Names, Row, Rule, Step, Text, Walk, nothing_held, settled_rows, with_default, walk, walk_from, walked}
use Rattle.clap.specs.Simple.{App, built, entered, is_simple, names_of, subcommand_of}
use Rattle.clap.specs.Words.{HasKind, IsAmong, is_simple_and_free, kind_of}
use Rattle.clap.specs.Faults.{fault_of, level_fault, walk_fault}
use Rattle.clap.specs.Kinds.{Kinds, or_else}
use Rattle.clap.specs.declared.error.kind.ErrorKind.TheVariants as kind
use Rattle.command_words.specs.Grammar.{ctt_app}
use Rattle.command_words.specs.Words.{Command, Part, command}
use Rattle.command_words.specs.Matches.{command_found}
use Rattle.clap.specs.Faults.{bundle_fault, bundle_step_fault, check_fault, defaults_fault, entered_fault, flag_word_fault, flags_fault, other_fault, settle_fault, step_fault}
use Rattle.clap.specs.Walk.{after_flag, after_step, bundle_met, bundle_step, finished, idle, long_or_other, plain, settled, short_or_plain, subcommand_or_other, trailing}
use Rattle.clap.proofs.FaultLemmas.{stopped_fault}
use Rattle.clap.proofs.OnLiterals.{clap_on_literals}
use Rattle.clap.specs.declared.error.Error.{Error}
use Rattle.clap.specs.declared.error.kind.ErrorKind.{ErrorKind}
use Rattle.command_words.proofs.FormLaws.{check_rules, knows_check, knows_make, knows_normal, knows_prompt, knows_replay, make_rules, normal_rules, prompt_rules, replay_rules, same_check, same_make, same_normal, same_prompt, same_replay}
use Rattle.command_words.specs.Grammar.{Form, check_form, make_form, normal_form, prompt_form, replay_form}
use Rattle.command_words.specs.Words.{Any, check_of, make_of, normal_of, prompt_of, read, replay_of}
use Rattle.command_words.proofs.WalkLaws.{Faulty, Told, leaf, leaf_reads, or_nothing, rows_at}

-- the kinds of error, and the subcommand with its rows, give this command
abbrev pub Answers : Kinds → Option (Text × List Row) → Option Command → Type 0
Answers kinds sub o =
    (kinds ≡ [] → option_and_then (λ p. command_found p.0 p.1) sub ≡ o) × ((kinds ≡ [] → ⊥) → o ≡ None)

-- what is told of a command's own words gives its command
told_answers : (c : List Rule) (kinds : Kinds) (end : Held) (o : Option (List Part)) (of_rows : List Row → Option Command) (of_parts : List Part → Option Command)
    → ((parts : List Part) → of_rows (fold with_default (rows_at c parts) c) ≡ of_parts parts) → Told c kinds end o
    → (or_else kinds [] ≡ [] → of_rows (fold with_default (settled_rows c end.pending end.rows) c) ≡ option_and_then of_parts o) × ((or_else kinds [] ≡ [] → ⊥) → option_and_then of_parts o ≡ None)
told_answers c kinds end None of_rows of_parts same told = (λ e. absurd (told (sym (or_nothing kinds) ∙ e)), λ no. refl)
told_answers c kinds end (Some parts) of_rows of_parts same told =
    (λ e. ap (λ rs. of_rows (fold with_default rs c)) told.1 ∙ same parts, λ no. absurd (no (or_nothing kinds ∙ told.0)))

-- the walk stops at a subcommand
stopped_walk : (c : List Rule) (names : Names) (w : Walk) (name : Text) (before words : List Text)
    → fold (walked c names) (record w { stopped = Some (name, before) }) words ≡ record w { stopped = Some (name, before ++ words) }
unfolding walked
stopped_walk c names w name before [] = ap (λ b. record w { stopped = Some (name, b) }) (sym (append-nil before))
stopped_walk c names w name before (word ∷ words) =
    stopped_walk c names w name (before ++ word ∷ []) words ∙ ap (λ b. record w { stopped = Some (name, b) }) (append_assoc before (word ∷ []) words)

abbrev app : App
app = built ctt_app

abbrev names : Names
names = names_of app

-- ---- by the subcommand that the first word names, if any

abbrev first_at : Text → Option Text → Walk
first_at word met =
    after_step [] word (walk_from nothing_held) (subcommand_or_other [] met idle 1 word nothing_held).0 (subcommand_or_other [] met idle 1 word nothing_held).1

abbrev first_fault : Text → Option Text → Kinds
first_fault word met =
    or_else (other_fault app.top met word nothing_held)
    (step_fault app.top 1 (subcommand_or_other [] met idle 1 word nothing_held).0 (subcommand_or_other [] met idle 1 word nothing_held).1)

-- the kinds of a whole parse, by those of the walk, where it stopped and what is held
abbrev whole_fault : Kinds → Option (Text × List Text) → Held → Kinds
whole_fault walk_kinds stop end =
    or_else walk_kinds (or_else (entered_fault app stop) (or_else (settle_fault [] false end)
    (or_else (defaults_fault (settled [] end).rows []) (check_fault app.top (finished [] end) (is_some (entered app stop))))))

abbrev AnswersBy : Text → List Text → Option Command → Option Text → Type 0
AnswersBy word words o met =
    let end = fold (walked [] names) (first_at word met) words in
    Answers (whole_fault (or_else (first_fault word met) (walk_fault app.top names (first_at word met) words)) end.stopped end.held) (entered app end.stopped) o

-- the word is no subcommand
abbrev Fails : Text → List Text → Option Text → Type 0
Fails word words met =
    let end = fold (walked [] names) (first_at word met) words in
    Faulty (whole_fault (or_else (first_fault word met) (walk_fault app.top names (first_at word met) words)) end.stopped end.held)

-- ---- a first word that names no subcommand

-- after `--` a word goes nowhere, and no word is no subcommand
nothing_after : (position : ℕ) (words : List Text) → let w : Walk = record { held = nothing_held; waiting = idle; position = position; is_trailing = true; stopped = None } in
    let end = fold (walked [] names) w words in Faulty (whole_fault (walk_fault app.top names w words) end.stopped end.held)
unfolding walk_fault walked defaults_fault
nothing_after position [] = (kind.MissingSubcommand, [], refl)
nothing_after position (word ∷ words) = (kind.UnknownArgument, kind.InvalidSubcommand ∷ [], refl)

abbrev FailsMet : Text → List Text → Kinds → Held × Step → Type 0
FailsMet word words kinds met =
    let w = after_step [] word (walk_from nothing_held) met.0 met.1 in
    let end = fold (walked [] names) w words in
    Faulty (whole_fault (or_else (or_else kinds (step_fault app.top 1 met.0 met.1)) (walk_fault app.top names w words)) end.stopped end.held)

fails_short : (word : Text) (words : List Text) (short : Option Text) → FailsMet word words (option_map_or (λ flags. bundle_fault [] false flags nothing_held) short []) (short_or_plain [] idle word short nothing_held)
unfolding flags_fault bundle_met
fails_short word words None = (kind.UnknownArgument, kind.InvalidSubcommand ∷ [], refl)
fails_short word words (Some []) = (kind.UnknownArgument, kind.InvalidSubcommand ∷ [], refl)
fails_short word words (Some (x ∷ flags)) = by_first (slice_get (chars (x ∷ flags)) 0)
  where
    by_first : (first : Option ℕ) → FailsMet word words (bundle_step_fault [] false first (x ∷ flags) 0 nothing_held (flags_fault [] false (length flags)))
        (after_flag [] idle word (bundle_step [] first (x ∷ flags) 0 plain nothing_held (bundle_met [] (length flags))).0 (bundle_step [] first (x ∷ flags) 0 plain nothing_held (bundle_met [] (length flags))).1)
    by_first None = (kind.UnknownArgument, kind.InvalidSubcommand ∷ [], refl)
    by_first (Some y) = (kind.UnknownArgument, [], refl)

fails : (word : Text) (words : List Text) → Fails word words None
fails word words = by_tests (bytes_eq word (codes "--")) (long_of word)
  where
    by_tests : (is_dashes : Bool) (long : Option (Text × Option Text)) → FailsMet word words (if is_dashes then [] else flag_word_fault [] false long word nothing_held)
        (if is_dashes then (nothing_held, trailing 1) else long_or_other [] idle word long nothing_held)
    by_tests true long = nothing_after 1 words
    by_tests false (Some p) = (kind.UnknownArgument, [], refl)
    by_tests false None = fails_short word words (short_of word)

-- ---- a first word that names one

-- what stands after a walk that stopped at a subcommand
abbrev AnswersAt : Option Command → Walk → Kinds → Type 0
AnswersAt o end walk_kinds = Answers (whole_fault walk_kinds end.stopped end.held) (entered app end.stopped) o

enters : (word name : Text) (words : List Text) (o : Option Command) → (bytes_eq name (codes "help") && false) ≡ false
    → AnswersAt o (record (walk_from nothing_held) { stopped = Some (name, words) }) [] → AnswersBy word words o (Some name)
enters word name words o help answers =
    subst (λ b. Answers (whole_fault (or_else (or_else (if b then kind.DisplayHelp ∷ kind.InvalidSubcommand ∷ [] else []) []) (walk_fault app.top names (record (walk_from nothing_held) { stopped = Some (name, []) }) words))
    (fold (walked [] names) (record (walk_from nothing_held) { stopped = Some (name, []) }) words).stopped (fold (walked [] names) (record (walk_from nothing_held) { stopped = Some (name, []) }) words).held)
    (entered app (fold (walked [] names) (record (walk_from nothing_held) { stopped = Some (name, []) }) words).stopped) o) (sym help)
    (subst (λ ks. AnswersAt o (fold (walked [] names) (record (walk_from nothing_held) { stopped = Some (name, []) }) words) ks) (sym (stopped_fault app.top names (walk_from nothing_held) (name, []) words))
    (subst (λ end. AnswersAt o end []) (sym (stopped_walk [] names (walk_from nothing_held) name [] words)) answers))

abbrev reads : List Text → Form → Option (List Part)
reads words f = read f words Any f.positionals []

of_check : (word : Text) (words : List Text) → AnswersBy word words (option_and_then check_of (reads words check_form)) (Some (codes "check"))
unfolding defaults_fault
of_check word words =
    enters word (codes "check") words (option_and_then check_of (reads words check_form)) refl
    (told_answers check_rules (level_fault (leaf (codes "check") check_rules) [] nothing_held words false []) (walk check_rules [] nothing_held words).held (reads words check_form) (command_found (codes "check")) check_of same_check
    (leaf_reads (codes "check") check_rules check_form knows_check words))

of_replay : (word : Text) (words : List Text) → AnswersBy word words (option_and_then replay_of (reads words replay_form)) (Some (codes "replay"))
unfolding defaults_fault
of_replay word words =
    enters word (codes "replay") words (option_and_then replay_of (reads words replay_form)) refl
    (told_answers replay_rules (level_fault (leaf (codes "replay") replay_rules) [] nothing_held words false []) (walk replay_rules [] nothing_held words).held (reads words replay_form) (command_found (codes "replay")) replay_of same_replay
    (leaf_reads (codes "replay") replay_rules replay_form knows_replay words))

of_normal : (word : Text) (words : List Text) → AnswersBy word words (option_and_then normal_of (reads words normal_form)) (Some (codes "normal"))
unfolding defaults_fault
of_normal word words =
    enters word (codes "normal") words (option_and_then normal_of (reads words normal_form)) refl
    (told_answers normal_rules (level_fault (leaf (codes "normal") normal_rules) [] nothing_held words false []) (walk normal_rules [] nothing_held words).held (reads words normal_form) (command_found (codes "normal")) normal_of same_normal
    (leaf_reads (codes "normal") normal_rules normal_form knows_normal words))

of_prompt : (word : Text) (words : List Text) → AnswersBy word words (option_and_then prompt_of (reads words prompt_form)) (Some (codes "prompt"))
unfolding defaults_fault
of_prompt word words =
    enters word (codes "prompt") words (option_and_then prompt_of (reads words prompt_form)) refl
    (told_answers prompt_rules (level_fault (leaf (codes "prompt") prompt_rules) [] nothing_held words false []) (walk prompt_rules [] nothing_held words).held (reads words prompt_form) (command_found (codes "prompt")) prompt_of same_prompt
    (leaf_reads (codes "prompt") prompt_rules prompt_form knows_prompt words))

of_make : (word : Text) (words : List Text) → AnswersBy word words (option_and_then make_of (reads words make_form)) (Some (codes "make"))
unfolding defaults_fault
of_make word words =
    enters word (codes "make") words (option_and_then make_of (reads words make_form)) refl
    (told_answers make_rules (level_fault (leaf (codes "make") make_rules) [] nothing_held words false []) (walk make_rules [] nothing_held words).held (reads words make_form) (command_found (codes "make")) make_of same_make
    (leaf_reads (codes "make") make_rules make_form knows_make words))

of_none : (word : Text) (words : List Text) → AnswersBy word words None None
of_none word words = let bad = fails word words in (λ e. let full : bad.0 ∷ bad.1 ≡ [] = sym bad.2 ∙ e in cc, λ no. refl)

by_name : (word : Text) (words : List Text) (a b c d e : Bool)
    → AnswersBy word words
    (if a then option_and_then check_of (reads words check_form)
    else if b then option_and_then replay_of (reads words replay_form)
    else if c then option_and_then normal_of (reads words normal_form)
    else if d then option_and_then prompt_of (reads words prompt_form)
    else if e then option_and_then make_of (reads words make_form)
    else None)
    (option_map (λ (s : Text × List Text). s.0) (cond (a || false) (Some (codes "check", [])) (cond (b || false) (Some (codes "replay", []))
    (cond (c || false) (Some (codes "normal", [])) (cond (d || false) (Some (codes "prompt", [])) (cond (e || false) (Some (codes "make", [])) None))))))
by_name word words true b c d e = of_check word words
by_name word words false true c d e = of_replay word words
by_name word words false false true d e = of_normal word words
by_name word words false false false true e = of_prompt word words
by_name word words false false false false true = of_make word words
by_name word words false false false false false = of_none word words

-- clap refuses words that are no command, and of others it finds what they are
pub ctt_answers : (words : List Text) → Answers (fault_of ctt_app words) (subcommand_of ctt_app words) (command words)
unfolding walk_fault walked defaults_fault
ctt_answers [] = (λ e. cc, λ no. refl)
ctt_answers (word ∷ words) = by_name word words (bytes_eq (codes "check") word) (bytes_eq (codes "replay") word) (bytes_eq (codes "normal") word) (bytes_eq (codes "prompt") word) (bytes_eq (codes "make") word)

simple_and_free : is_simple_and_free ctt_app ≡ true
unfolding clap_on_literals
simple_and_free = refl

simple : is_simple ctt_app ≡ true
unfolding clap_on_literals
simple = refl

-- matches that clap gives
pub found : (a : App) (words : List Text) (sub : Option (Text × List Row)) → a ≡ ctt_app → (is_simple_and_free a ≡ true → fault_of a words ≡ [])
    → (is_simple a ≡ true → sub ≡ subcommand_of a words) → option_and_then (λ p. command_found p.0 p.1) sub ≡ command words
found a words sub e fault same =
    ap (option_and_then (λ p. command_found p.0 p.1)) (same (ap is_simple e ∙ simple) ∙ ap (λ x. subcommand_of x words) e)
    ∙ (ctt_answers words).0 (sym (ap (λ x. fault_of x words) e) ∙ fault (ap is_simple_and_free e ∙ simple_and_free))

among : (k : ErrorKind) (kinds : Kinds) → IsAmong k kinds → kinds ≡ [] → ⊥
among k [] h e = h
among k (x ∷ kinds) h e = cc

-- words that it refuses
pub refused : (a : App) (words : List Text) (error : Error) → a ≡ ctt_app → (is_simple_and_free a ≡ true → HasKind (fault_of a words) error) → (kind_of error ≡ kind.OutOfMemory → ⊥)
    → None ≡ command words
refused a words error e has other =
    elim (has (ap is_simple_and_free e ∙ simple_and_free)) [
      | inl memory ↦ absurd (other memory)
      | inr h ↦ sym ((ctt_answers words).1 (λ none. among (kind_of error) (fault_of a words) h (ap (λ x. fault_of x words) e ∙ none)))
    ]
