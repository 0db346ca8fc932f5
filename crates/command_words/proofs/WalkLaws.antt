-- The walk of clap over the words of a form.
use Rattle.std.proofs.Common.{◌≡◌, ◌∙◌, ℕ, ◌+◌, ◌&&◌, ◌||◌, Bool, true, false, min, List, [], ◌∷◌, ◌++◌, map, length, Option, Some, None, is_some, refl, sym, ap, subst, drop, true≢false, append-nil, codes, fold}
use Rattle.std.specs.List.{list_all}
use Rattle.std.specs.Option.{option_map_or}
use Rattle.std.specs.Prelude.{slice_get, if◌then◌else◌, encode_utf8, nat_lt}
use Rattle.std.specs.Str.{bytes_eq, chars}
use Rattle.std.proofs.lemmas.Slice.Eq.{bytes_eq-Decides}
use Rattle.clap.specs.Lexer.{long_of, short_of, usize_max}
use Rattle.clap.specs.Walk.{Held, Row, Rule, Step, Text, Waiting, Walk, after_flag, after_step, arg_by_id, arg_by_index, arg_by_long, arg_by_short, at_row, bundle_met, bundle_step, finished, has_row, idle, is_pending, long_met, long_or_other, long_word, more_values, nothing_held, option, option_word, plain, plain_word, pushed, reading_by, settled, settled_rows, short_or_plain, takes_several, takes_values, to_positional, trailing, used, used_by_id, value, walk, walked, with_default, with_values, without}
use Rattle.clap.specs.Simple.{Shape, filled, new_shape, with_index}
use Rattle.clap.specs.Faults.{bundle_fault, bundle_step_fault, check_fault, defaults_fault, flag_word_fault, flags_fault, level_fault, long_fault, option_fault, positional_fault, react_fault, repeat_fault, settle_fault, short_fault, step_fault, use_fault, walk_fault}
use Rattle.clap.specs.Kinds.{Kinds, or_else}
use Rattle.clap.specs.declared.builder.value_parser.Reading.{Reading}
use Rattle.clap.specs.declared.builder.value_parser.Reading.TheVariants as reading
use Rattle.clap.specs.declared.error.kind.ErrorKind.{ErrorKind}
use Rattle.clap.specs.declared.error.kind.ErrorKind.TheVariants as kind
use Rattle.clap.specs.declared.parser.matches.ValueSource.TheVariants.{CommandLine}
use Rattle.command_words.specs.Grammar.{Form, flag_rule, option_rule, positional_rule}
use Rattle.command_words.specs.Words.{Any, Awaits, Mode, Next, Only, Part, Plain, Unknown, Word, word_as, and_part, any_read, has_character, is_flag, is_given, is_option, flag_read, named_read, option_read, part, positional_read, read, value_read, whole}

-- ---- the rules of a form, built

abbrev pub positional_built : ℕ → Text → Rule
positional_built i id = with_index i (filled (positional_rule id))

abbrev pub option_built : Text → Rule
option_built id = filled (option_rule id)

abbrev pub flag_built : Text → Rule
flag_built id = filled (flag_rule id)

abbrev pub long_rule : Form → Text → Option Rule
long_rule f name =
    if is_option f name then Some (option_built name)
    else (if is_flag f name then Some (flag_built name) else None)

abbrev pub leaf : Text → List Rule → Shape
leaf name c = record (new_shape name) {
  rules = c;
  no_binary_name = true;
  disable_help_flag = true;
  disable_help_subcommand = true;
  disable_version_flag = true;
  is_built = true;
}

pub and_false : (b : Bool) → (b && false) ≡ false
and_false true = refl
and_false false = refl

pub and_true : (b : Bool) → (b && true) ≡ b
and_true true = refl
and_true false = refl

pub or_nothing : (k : Kinds) → or_else k [] ≡ k
or_nothing [] = refl
or_nothing (k ∷ ks) = refl

-- one value of an option or a positional word
one_fault_option : (id v : Text) (rows : List Row) → use_fault false (option_built id) (v ∷ []) rows ≡ repeat_fault false id rows
one_fault_option id v rows = or_nothing (repeat_fault false id rows)

one_fault_positional : (i : ℕ) (id v : Text) (rows : List Row) → use_fault false (positional_built i id) (v ∷ []) rows ≡ repeat_fault false id rows
one_fault_positional i id v rows = or_nothing (repeat_fault false id rows)

fault_flag : (id : Text) (rows : List Row) → use_fault false (flag_built id) [] rows ≡ repeat_fault false id rows
fault_flag id rows = or_nothing (repeat_fault false id rows)

used_option : (id v : Text) (rows : List Row) → used (option_built id) (v ∷ []) rows ≡ with_values id (reading_by (option_built id)) CommandLine (v ∷ []) (without id rows)
used_option id v rows = refl

used_positional : (i : ℕ) (id v : Text) (rows : List Row) → used (positional_built i id) (v ∷ []) rows ≡ with_values id (reading_by (option_built id)) CommandLine (v ∷ []) (without id rows)
used_positional i id v rows = refl

used_flag : (id : Text) (rows : List Row) → used (flag_built id) [] rows ≡ with_values id (reading_by (flag_built id)) CommandLine (codes "true" ∷ []) (without id rows)
used_flag id rows = refl

-- ---- parts as rows

abbrev pub reading_at : List Rule → Text → Reading
reading_at c id = option_map_or reading_by (arg_by_id c id) reading.AsWritten

abbrev pub row_at : List Rule → Part → Row
row_at c p = record {
  id = p.name;
  values = p.text ∷ [];
  count = None;
  source = Some CommandLine;
  reading = reading_at c p.name;
}

abbrev pub rows_at : List Rule → List Part → List Row
rows_at c = map (row_at c)

pub given_row : (c : List Rule) (id : Text) (parts : List Part) → has_row id (rows_at c parts) ≡ is_given id parts
given_row c id [] = refl
given_row c id (p ∷ parts) = ap (λ b. bytes_eq p.name id || b) (given_row c id parts)

pub parts_or : (a b : Bool) → (a || b) ≡ false → (a ≡ false) × (b ≡ false)
parts_or true b e = absurd (true≢false e)
parts_or false b e = (refl, e)

pub absent : (c : List Rule) (id : Text) (change : Row → List Row) (missing : List Row) (parts : List Part) → is_given id parts ≡ false → at_row id change missing (rows_at c parts) ≡ rows_at c parts ++ missing
absent c id change missing [] e = refl
absent c id change missing (p ∷ parts) e =
    let both = parts_or _ _ e in
    ap (λ b. if b then change (row_at c p) ++ rows_at c parts else row_at c p ∷ at_row id change missing (rows_at c parts)) both.0 ∙ ap (λ rs. row_at c p ∷ rs) (absent c id change missing parts both.1)

rows_more : (c : List Rule) (parts : List Part) (p : Part) → rows_at c (parts ++ p ∷ []) ≡ rows_at c parts ++ row_at c p ∷ []
rows_more c [] p = refl
rows_more c (q ∷ parts) p = ap (λ rs. row_at c q ∷ rs) (rows_more c parts p)

-- a first use of an argument adds its row
row_added : (c : List Rule) (id v : Text) (how : Reading) (parts : List Part) → is_given id parts ≡ false → how ≡ reading_at c id
    → with_values id how CommandLine (v ∷ []) (without id (rows_at c parts)) ≡ rows_at c (parts ++ part id v ∷ [])
row_added c id v how parts e is =
    ap (with_values id how CommandLine (v ∷ [])) (absent c id (λ _. []) [] parts e ∙ append-nil (rows_at c parts))
    ∙ (absent c id (more_values CommandLine (v ∷ [])) _ parts e ∙ (ap (λ h. rows_at c parts ++ record { id = id; values = v ∷ []; count = None; source = Some CommandLine; reading = h } ∷ []) is ∙ sym (rows_more c parts (part id v))))

-- ---- what clap makes of words from a place on

abbrev pub held : List Row → Option (Text × List Text) → Held
held rows pending = record { rows = rows; pending = pending; skip = 0 }

abbrev pub at : List Row → Option (Text × List Text) → Waiting → ℕ → Bool → Walk
at rows pending waiting position is_trailing = record {
  held = held rows pending;
  waiting = waiting;
  position = position;
  is_trailing = is_trailing;
  stopped = None;
}

-- the kinds after the walk
abbrev pub ending : Text → List Rule → Held → Kinds
ending name c end =
    or_else (settle_fault c false end) (or_else (defaults_fault (settled c end).rows c) (check_fault (leaf name c) (finished c end) false))

-- these kinds of error, and what is held at the end, are those of a reading
abbrev pub Told : List Rule → Kinds → Held → Option (List Part) → Type 0
Told c kinds end None = kinds ≡ [] → ⊥
Told c kinds end (Some parts) = (kinds ≡ []) × (settled_rows c end.pending end.rows ≡ rows_at c parts)

-- the words from here on are read so, where the one before gave these kinds
abbrev pub Reads : Text → List Rule → Kinds → Walk → List Text → Option (List Part) → Type 0
Reads name c kinds w words o =
    let end = (fold (walked c []) w words).held in
    Told c (or_else (or_else kinds (walk_fault (leaf name c) [] w words)) (ending name c end)) end o

first_stays : (a b : Kinds) (k : ErrorKind) (ks : Kinds) → a ≡ k ∷ ks → or_else a b ≡ [] → ⊥
first_stays a b k ks e none =
    let full : k ∷ ks ≡ [] = ap (λ x. or_else x b) (sym e) ∙ none in cc

-- a kind of error stays
stops : (name : Text) (c : List Rule) (kinds : Kinds) (k : ErrorKind) (ks : Kinds) (w : Walk) (words : List Text) → kinds ≡ k ∷ ks → Reads name c kinds w words None
stops name c kinds k ks w words e = first_stays _ _ k ks (ap (λ x. or_else x (walk_fault (leaf name c) [] w words)) e)

-- ---- what is known of the rules of a form

-- the positional words to come, the first at this place
abbrev pub Places : List Rule → ℕ → List Text → Type 0
Places c position [] = arg_by_index c position ≡ None
Places c position (id ∷ left) =
    (i : ℕ) × (arg_by_index c position ≡ Some (positional_built i id))
    × (arg_by_id c id ≡ Some (positional_built i id)) × Places c (min (position + 1) usize_max) left

pub record Knows (c : List Rule) (f : Form) : Type 0 where
  pub long : (name : Text) → arg_by_long c name ≡ long_rule f name
  pub short : (x : ℕ) → arg_by_short c x ≡ None
  pub single : (i : ℕ) (a : Rule) → arg_by_index c i ≡ Some a → takes_several a ≡ false
  pub option : (name : Text) → is_option f name ≡ true → arg_by_id c name ≡ Some (option_built name)
  pub flag : (name : Text) → is_flag f name ≡ true → arg_by_id c name ≡ Some (flag_built name)
  pub places : Places c 1 f.positionals
  pub ends : (parts : List Part) → or_else (defaults_fault (rows_at c parts) c) (check_fault (leaf [] c) (fold with_default (rows_at c parts) c) false)
      ≡ (if list_all (λ id. is_given id parts) f.positionals then [] else kind.MissingRequiredArgument ∷ [])

-- ---- where what is pending fails

-- a word at a place goes nowhere, or settles what is pending
at_place : (h : Held) (c : List Rule) (k : ErrorKind) (ks : Kinds) (o : Option Rule) → settle_fault c false h ≡ k ∷ ks → ((a : Rule) → o ≡ Some a → takes_several a ≡ false)
    → (j : ErrorKind) × (js : Kinds) × (option_map_or (λ a. positional_fault c false a h) o (kind.UnknownArgument ∷ []) ≡ j ∷ js)
at_place h c k ks None e single = (kind.UnknownArgument, [], refl)
at_place h c k ks (Some a) e single =
    let no : (is_pending a h.pending && takes_several a) ≡ false = ap (λ b. is_pending a h.pending && b) (single a refl) ∙ and_false (is_pending a h.pending) in
    (k, ks, ap (λ b. if b then [] else settle_fault c false h) no ∙ e)

doomed_after : (name : Text) (c : List Rule) (f : Form) (knows : Knows c f) (h : Held) (waiting : Waiting) (position : ℕ) (k : ErrorKind) (ks : Kinds) → settle_fault c false h ≡ k ∷ ks
    → (words : List Text) → Reads name c [] (record { held = h; waiting = waiting; position = position; is_trailing = true; stopped = None }) words None
unfolding walk_fault walked
doomed_after name c f knows h waiting position k ks e [] = first_stays _ _ k ks e
doomed_after name c f knows h waiting position k ks e (word ∷ words) =
    let p = at_place h c k ks (arg_by_index c position) e (knows.single position) in
    stops name c _ p.0 p.1 _ words p.2

-- some kind of error
abbrev pub Faulty : Kinds → Type 0
Faulty kinds = (k : ErrorKind) × (ks : Kinds) × (kinds ≡ k ∷ ks)

pub faulty_first : (a b : Kinds) → Faulty a → Faulty (or_else a b)
faulty_first a b p = (p.0, p.1, ap (λ x. or_else x b) p.2)

long_faulty : (c : List Rule) (h : Held) → Faulty (settle_fault c false h) → (r : Option Rule) (v : Option Text) → Faulty (long_fault c false r v h)
long_faulty c h e None v = (kind.UnknownArgument, [], refl)
long_faulty c h e (Some a) v =
    elim (takes_values a) as (λ b. Faulty (if b then option_fault c false a v h else (if is_some v then kind.TooManyValues ∷ [] else react_fault c false a [] h))) [
      | true ↦ of_option v
      | false ↦ of_flag v
    ]
  where
    of_option : (v : Option Text) → Faulty (option_fault c false a v h)
    of_option None = e
    of_option (Some x) = faulty_first _ _ e

    of_flag : (v : Option Text) → Faulty (if is_some v then kind.TooManyValues ∷ [] else react_fault c false a [] h)
    of_flag None = faulty_first _ _ e
    of_flag (Some x) = (kind.TooManyValues, [], refl)

-- ---- a word before `--`, by its tests

abbrev pub met_by : List Rule → Waiting → ℕ → Text → Held → Bool → Option (Text × Option Text) → Held × Step
met_by c waiting position word h is_dashes long =
    if is_dashes then (h, trailing position) else long_or_other c waiting word long h

abbrev pub fault_by : List Rule → Text → Held → Bool → Option (Text × Option Text) → Kinds
fault_by c word h is_dashes long = if is_dashes then [] else flag_word_fault c false long word h

abbrev pub walk_at : Held → Waiting → ℕ → Bool → Walk
walk_at h waiting position is_trailing =
    record { held = h; waiting = waiting; position = position; is_trailing = is_trailing; stopped = None }

-- after a word that was met so, with these kinds of error
abbrev pub ReadsMet : Text → List Rule → Waiting → ℕ → Text → Held → List Text → Option (List Part) → Kinds → Held × Step → Type 0
ReadsMet name c waiting position word h words o kinds met =
    Reads name c (or_else kinds (step_fault (leaf name c) position met.0 met.1))
    (after_step c word (walk_at h waiting position false) met.0 met.1) words o

abbrev pub ReadsBy : Text → List Rule → Waiting → ℕ → Text → Held → List Text → Option (List Part) → Bool → Option (Text × Option Text) → Type 0
ReadsBy name c waiting position word h words o is_dashes long =
    ReadsMet name c waiting position word h words o (fault_by c word h is_dashes long) (met_by c waiting position word h is_dashes long)

abbrev pub ReadsShort : Text → List Rule → Waiting → ℕ → Text → Held → List Text → Option (List Part) → Option Text → Type 0
ReadsShort name c waiting position word h words o short =
    ReadsMet name c waiting position word h words o (option_map_or (λ flags. bundle_fault c false flags h) short []) (short_or_plain c waiting word short h)

-- what follows one hyphen: a character, which names no flag, or none, and the word is no flag
short_read : (name : Text) (c : List Rule) (f : Form) (knows : Knows c f) (waiting : Waiting) (position : ℕ) (word : Text) (rows : List Row) (pending : Option (Text × List Text)) (words : List Text) (o : Word → Option (List Part)) → None ≡ o Unknown
    → ReadsMet name c waiting position word (held rows pending) words (o Plain) [] (plain_word c waiting word (held rows pending))
    → (short : Option Text) → ReadsShort name c waiting position word (held rows pending) words (o (if has_character short then Unknown else Plain)) short
unfolding flags_fault bundle_met
short_read name c f knows waiting position word rows pending words o none plainly None = plainly
short_read name c f knows waiting position word rows pending words o none plainly (Some []) = plainly
short_read name c f knows waiting position word rows pending words o none plainly (Some (x ∷ flags)) = by_first (slice_get (chars (x ∷ flags)) 0)
  where
    by_first : (first : Option ℕ) → ReadsMet name c waiting position word (held rows pending) words (o (if is_some first then Unknown else Plain))
        (bundle_step_fault c false first (x ∷ flags) 0 (held rows pending) (flags_fault c false (length flags)))
        (after_flag c waiting word (bundle_step c first (x ∷ flags) 0 plain (held rows pending) (bundle_met c (length flags))).0 (bundle_step c first (x ∷ flags) 0 plain (held rows pending) (bundle_met c (length flags))).1)
    by_first None = plainly
    by_first (Some y) =
        let met = after_flag c waiting word (bundle_step c (Some y) (x ∷ flags) 0 plain (held rows pending) (bundle_met c (length flags))).0 (bundle_step c (Some y) (x ∷ flags) 0 plain (held rows pending) (bundle_met c (length flags))).1 in
        let rest = drop (length (encode_utf8 y)) (x ∷ flags) in
        subst (λ v. ReadsMet name c waiting position word (held rows pending) words v (bundle_step_fault c false (Some y) (x ∷ flags) 0 (held rows pending) (flags_fault c false (length flags))) met) none
        (stops name c _ kind.UnknownArgument _ _ words
        (ap (λ r. or_else (short_fault c false r rest (held rows pending) (flags_fault c false (length flags) rest 0)) (step_fault (leaf name c) position met.0 met.1)) (knows.short y)))

doomed_idle : (name : Text) (c : List Rule) (f : Form) (knows : Knows c f) (rows : List Row) (pending : Option (Text × List Text)) (position : ℕ) → Faulty (settle_fault c false (held rows pending))
    → (words : List Text) → Reads name c [] (walk_at (held rows pending) idle position false) words None
unfolding walk_fault walked
doomed_idle name c f knows rows pending position e [] = first_stays _ _ e.0 e.1 e.2
doomed_idle name c f knows rows pending position e (word ∷ words) = by_tests (bytes_eq word (codes "--")) (long_of word)
  where
    by_tests : (is_dashes : Bool) (long : Option (Text × Option Text)) → ReadsBy name c idle position word (held rows pending) words None is_dashes long
    by_tests true long = doomed_after name c f knows (held rows pending) idle position e.0 e.1 e.2 words
    by_tests false (Some p) =
        let bad = faulty_first _ _ (long_faulty c (held rows pending) e (arg_by_long c p.0) p.1) in
        stops name c _ bad.0 bad.1 _ words bad.2
    by_tests false None =
        let q = at_place (held rows pending) c e.0 e.1 (arg_by_index c position) e.2 (knows.single position) in
        short_read name c f knows idle position word rows pending words (λ kind. None) refl (stops name c _ q.0 q.1 _ words q.2) (short_of word)

-- ---- where nothing that is pending fails

-- words are read so from each state in which these parts are held
abbrev pub Resumes : Text → List Rule → List Text → ℕ → Bool → (List Part → Option (List Part)) → Type 0
Resumes name c words position is_trailing next =
    (rows : List Row) (pending : Option (Text × List Text)) (parts : List Part) → settle_fault c false (held rows pending) ≡ []
    → settled_rows c pending rows ≡ rows_at c parts → Reads name c [] (walk_at (held rows pending) idle position is_trailing) words (next parts)

repeat_as : (c : List Rule) (id : Text) (parts : List Part) (b : Bool) → is_given id parts ≡ b → repeat_fault false id (rows_at c parts) ≡ (if b then kind.ArgumentConflict ∷ [] else [])
repeat_as c id parts b e = ap (λ x. if x then kind.ArgumentConflict ∷ [] else []) (and_true (has_row id (rows_at c parts)) ∙ (given_row c id parts ∙ e))

without_kinds : (name : Text) (c : List Rule) (kinds : Kinds) (w : Walk) (words : List Text) (o : Option (List Part)) → kinds ≡ [] → Reads name c [] w words o → Reads name c kinds w words o
without_kinds name c kinds w words o e = subst (λ ks. Reads name c ks w words o) (sym e)

-- an argument whose use with these values gives this text
pub record Gives (c : List Rule) (a : Rule) (id : Text) (values : List Text) (text : Text) : Type 0 where
  pub found : arg_by_id c id ≡ Some a
  pub fault : (rows : List Row) → use_fault false a values rows ≡ repeat_fault false id rows
  pub used : (rows : List Row) → used a values rows ≡ with_values id (reading_by a) CommandLine (text ∷ []) (without id rows)

use_adds : (c : List Rule) (a : Rule) (id : Text) (values : List Text) (text : Text) (parts : List Part) → Gives c a id values text → is_given id parts ≡ false → used a values (rows_at c parts) ≡ rows_at c (parts ++ part id text ∷ [])
use_adds c a id values text parts g e =
    g.used (rows_at c parts) ∙ row_added c id text (reading_by a) parts e (sym (ap (λ o. option_map_or reading_by o reading.AsWritten) g.found))

settle_is : (c : List Rule) (a : Rule) (id : Text) (values : List Text) (text : Text) (rows : List Row) (parts : List Part) (b : Bool) → Gives c a id values text → rows ≡ rows_at c parts → is_given id parts ≡ b
    → settle_fault c false (held rows (Some (id, values))) ≡ (if b then kind.ArgumentConflict ∷ [] else [])
settle_is c a id values text rows parts b g same e =
    ap (λ o. option_map_or (λ x. use_fault false x values rows) o []) g.found ∙ (g.fault rows ∙ (ap (repeat_fault false id) same ∙ repeat_as c id parts b e))

-- a value that is pending
push : (name : Text) (c : List Rule) (f : Form) (knows : Knows c f) (words : List Text) (position : ℕ) (is_trailing : Bool) (next : List Part → Option (List Part)) (rows : List Row) (parts : List Part) (a : Rule) (id text : Text)
    → rows ≡ rows_at c parts → Gives c a id (text ∷ []) text → Resumes name c words position is_trailing next
    → Reads name c [] (walk_at (held rows (Some (id, text ∷ []))) idle position is_trailing) words (and_part id text parts next)
push name c f knows words position is_trailing next rows parts a id text same g resumes = by_test (is_given id parts) refl
  where
    doomed : (t : Bool) → Faulty (settle_fault c false (held rows (Some (id, text ∷ [])))) → Reads name c [] (walk_at (held rows (Some (id, text ∷ []))) idle position t) words None
    doomed true e = doomed_after name c f knows (held rows (Some (id, text ∷ []))) idle position e.0 e.1 e.2 words
    doomed false e = doomed_idle name c f knows rows (Some (id, text ∷ [])) position e words

    by_test : (b : Bool) → is_given id parts ≡ b → Reads name c [] (walk_at (held rows (Some (id, text ∷ []))) idle position is_trailing) words (if b then None else next (parts ++ part id text ∷ []))
    by_test true e = doomed is_trailing (kind.ArgumentConflict, [], settle_is c a id (text ∷ []) text rows parts true g same e)
    by_test false e = resumes rows (Some (id, text ∷ [])) (parts ++ part id text ∷ []) (settle_is c a id (text ∷ []) text rows parts false g same e)
        (ap (λ o. used_by_id o (text ∷ []) rows) g.found ∙ (ap (used a (text ∷ [])) same ∙ use_adds c a id (text ∷ []) text parts g e))

-- an option with its value, or a flag
attach : (name : Text) (c : List Rule) (words : List Text) (position : ℕ) (next : List Part → Option (List Part)) (rows : List Row) (pending : Option (Text × List Text)) (parts : List Part) (a : Rule) (id : Text) (values : List Text) (text : Text)
    → settle_fault c false (held rows pending) ≡ [] → settled_rows c pending rows ≡ rows_at c parts → Gives c a id values text → Resumes name c words position false next
    → Reads name c (or_else (or_else (settle_fault c false (held rows pending)) (use_fault false a values (settled_rows c pending rows))) [])
    (walk_at (held (used a values (settled_rows c pending rows)) None) idle position false) words (and_part id text parts next)
attach name c words position next rows pending parts a id values text none same g resumes =
    subst (λ rs. Reads name c (or_else (or_else (settle_fault c false (held rows pending)) (use_fault false a values rs)) []) (walk_at (held (used a values rs) None) idle position false) words (and_part id text parts next)) (sym same)
    (subst (λ ks. Reads name c (or_else (or_else ks (use_fault false a values (rows_at c parts))) []) (walk_at (held (used a values (rows_at c parts)) None) idle position false) words (and_part id text parts next)) (sym none)
    (by_test (is_given id parts) refl))
  where
    kinds_are : (b : Bool) → is_given id parts ≡ b → or_else (use_fault false a values (rows_at c parts)) [] ≡ (if b then kind.ArgumentConflict ∷ [] else [])
    kinds_are b e = or_nothing _ ∙ (g.fault (rows_at c parts) ∙ repeat_as c id parts b e)

    by_test : (b : Bool) → is_given id parts ≡ b → Reads name c (or_else (use_fault false a values (rows_at c parts)) []) (walk_at (held (used a values (rows_at c parts)) None) idle position false) words (if b then None else next (parts ++ part id text ∷ []))
    by_test true e = stops name c _ kind.ArgumentConflict [] _ words (kinds_are true e)
    by_test false e = without_kinds name c _ _ words _ (kinds_are false e) (resumes (used a values (rows_at c parts)) None (parts ++ part id text ∷ []) refl (use_adds c a id values text parts g e))

pub or_false : (b : Bool) → (b || false) ≡ b
or_false true = refl
or_false false = refl

-- a positional word
place : (name : Text) (c : List Rule) (f : Form) (knows : Knows c f) (word : Text) (words : List Text) (waiting : Waiting) (position : ℕ) (is_trailing : Bool) (mode : Mode) (next : Next) (rows : List Row) (pending : Option (Text × List Text)) (parts : List Part)
    → settle_fault c false (held rows pending) ≡ [] → settled_rows c pending rows ≡ rows_at c parts
    → (left : List Text) → Places c position left → ((q : ℕ) (rest : List Text) → Places c q rest → Resumes name c words q is_trailing (next mode rest))
    → Reads name c (step_fault (leaf name c) position (held rows pending) value) (to_positional c (arg_by_index c position) word (walk_at (held rows pending) waiting position is_trailing) (held rows pending)) words (positional_read mode left parts word next)
place name c f knows word words waiting position is_trailing mode next rows pending parts none same [] p resumes =
    stops name c _ kind.UnknownArgument [] _ words (ap (λ o. option_map_or (λ a. positional_fault c false a (held rows pending)) o (kind.UnknownArgument ∷ [])) p)
place name c f knows word words waiting position is_trailing mode next rows pending parts none same (id ∷ left) p resumes =
    subst (λ o. Reads name c (option_map_or (λ a. positional_fault c false a (held rows pending)) o (kind.UnknownArgument ∷ [])) (to_positional c o word (walk_at (held rows pending) waiting position is_trailing) (held rows pending)) words (and_part id word parts (next mode left))) (sym p.1)
    (subst (λ b. Reads name c (if b then [] else settle_fault c false (held rows pending)) (record {
      held = pushed id word (if b then held rows pending else settled c (held rows pending));
      waiting = idle;
      position = min (position + 1) usize_max;
      is_trailing = is_trailing || false;
      stopped = None;
    }) words (and_part id word parts (next mode left))) (sym (and_false (is_pending (positional_built p.0 id) pending)))
    (without_kinds name c _ _ words _ none (subst (λ t. Reads name c [] (walk_at (held (settled_rows c pending rows) (Some (id, word ∷ []))) idle (min (position + 1) usize_max) t) words (and_part id word parts (next mode left))) (sym (or_false is_trailing))
    (push name c f knows words (min (position + 1) usize_max) is_trailing (next mode left) (settled_rows c pending rows) parts (positional_built p.0 id) id word same
    (record { found = p.2; fault = one_fault_positional p.0 id word; used = used_positional p.0 id word }) (resumes (min (position + 1) usize_max) left p.3)))))

-- ---- all words

no_fault_after : (name : Text) (c : List Rule) (f : Form) (knows : Knows c f) (rows : List Row) (pending : Option (Text × List Text)) (parts : List Part)
    → settle_fault c false (held rows pending) ≡ [] → settled_rows c pending rows ≡ rows_at c parts → Told c (ending name c (held rows pending)) (held rows pending) (whole f parts)
no_fault_after name c f knows rows pending parts none same = by_test (list_all (λ id. is_given id parts) f.positionals) kinds_are
  where
    kinds_are : ending name c (held rows pending) ≡ (if list_all (λ id. is_given id parts) f.positionals then [] else kind.MissingRequiredArgument ∷ [])
    kinds_are =
        ap (λ ks. or_else ks (or_else (defaults_fault (settled_rows c pending rows) c) (check_fault (leaf name c) (fold with_default (settled_rows c pending rows) c) false))) none
        ∙ (ap (λ rs. or_else (defaults_fault rs c) (check_fault (leaf name c) (fold with_default rs c) false)) same ∙ knows.ends parts)

    by_test : (b : Bool) → ending name c (held rows pending) ≡ (if b then [] else kind.MissingRequiredArgument ∷ []) → Told c (ending name c (held rows pending)) (held rows pending) (if b then Some parts else None)
    by_test true e = (e, same)
    by_test false e = λ clean. let bad : kind.MissingRequiredArgument ∷ [] ≡ [] = sym e ∙ clean in cc

option_gives : (c : List Rule) (f : Form) (knows : Knows c f) (id text : Text) → is_option f id ≡ true → Gives c (option_built id) id (text ∷ []) text
option_gives c f knows id text e = record { found = knows.option id e; fault = one_fault_option id text; used = used_option id text }

flag_gives : (c : List Rule) (f : Form) (knows : Knows c f) (id : Text) → is_flag f id ≡ true → Gives c (flag_built id) id [] (codes "true")
flag_gives c f knows id e = record { found = knows.flag id e; fault = fault_flag id; used = used_flag id }

-- the words from each state on
pub record ReadAll (name : Text) (c : List Rule) (f : Form) (words : List Text) : Type 0 where
  pub any : (position : ℕ) (left : List Text) → Places c position left → Resumes name c words position false (read f words Any left)
  pub only : (position : ℕ) (left : List Text) → Places c position left → Resumes name c words position true (read f words Only left)
  pub awaits : (position : ℕ) (left : List Text) → Places c position left → (id : Text) → is_option f id ≡ true → (rows : List Row) (parts : List Part) → rows ≡ rows_at c parts
      → Reads name c [] (walk_at (held rows (Some (id, []))) (option id) position false) words (read f words (Awaits id) left parts)

-- `--NAME` or `--NAME=VALUE`, where any word may stand
long_any : (name : Text) (c : List Rule) (f : Form) (knows : Knows c f) (word : Text) (words : List Text) → ReadAll name c f words → (position : ℕ) (left : List Text) → Places c position left
    → (rows : List Row) (pending : Option (Text × List Text)) (parts : List Part) → settle_fault c false (held rows pending) ≡ [] → settled_rows c pending rows ≡ rows_at c parts
    → (id : Text) (v : Option Text) → ReadsMet name c idle position word (held rows pending) words (named_read f left parts id v (read f words)) (long_fault c false (arg_by_long c id) v (held rows pending)) (long_word c idle word id v (held rows pending))
long_any name c f knows word words later position left p rows pending parts none same id v =
    subst Family (sym (knows.long id)) (by_tests (is_option f id) (is_flag f id) refl refl v)
  where
    Family : Option Rule → Type 0
    Family r = ReadsMet name c idle position word (held rows pending) words (named_read f left parts id v (read f words)) (long_fault c false r v (held rows pending))
        (after_flag c idle word (long_met c r v (held rows pending)).0 (long_met c r v (held rows pending)).1)

    by_tests : (o g : Bool) → is_option f id ≡ o → is_flag f id ≡ g → (v : Option Text) → ReadsMet name c idle position word (held rows pending) words
        (if o then option_read left parts id v (read f words) else (if g then flag_read left parts id v (read f words) else None))
        (long_fault c false (if o then Some (option_built id) else (if g then Some (flag_built id) else None)) v (held rows pending))
        (after_flag c idle word (long_met c (if o then Some (option_built id) else (if g then Some (flag_built id) else None)) v (held rows pending)).0 (long_met c (if o then Some (option_built id) else (if g then Some (flag_built id) else None)) v (held rows pending)).1)
    by_tests true g is_o is_g (Some text) = attach name c words position (read f words Any left) rows pending parts (option_built id) id (text ∷ []) text none same (option_gives c f knows id text is_o) (later.any position left p)
    by_tests true g is_o is_g None = without_kinds name c (or_else (settle_fault c false (held rows pending)) []) (walk_at (held (settled_rows c pending rows) (Some (id, []))) (option id) position false) words (read f words (Awaits id) left parts) (or_nothing (settle_fault c false (held rows pending)) ∙ none) (later.awaits position left p id is_o (settled_rows c pending rows) parts same)
    by_tests false true is_o is_g (Some text) = λ full. cc
    by_tests false true is_o is_g None = attach name c words position (read f words Any left) rows pending parts (flag_built id) id [] (codes "true") none same (flag_gives c f knows id is_g) (later.any position left p)
    by_tests false false is_o is_g v = λ full. cc

-- the value of an option
long_awaited : (name : Text) (c : List Rule) (f : Form) (knows : Knows c f) (word : Text) (words : List Text) (position : ℕ) (waits : Text) → is_option f waits ≡ true
    → (rows : List Row) (id : Text) (v : Option Text) → ReadsMet name c (option waits) position word (held rows (Some (waits, []))) words None (long_fault c false (arg_by_long c id) v (held rows (Some (waits, [])))) (long_word c (option waits) word id v (held rows (Some (waits, []))))
long_awaited name c f knows word words position waits e rows id v =
    let pending_fails : settle_fault c false (held rows (Some (waits, []))) ≡ kind.InvalidValue ∷ [] = ap (λ o. option_map_or (λ a. use_fault false a [] rows) o []) (knows.option waits e) in
    let bad = faulty_first _ _ (long_faulty c (held rows (Some (waits, []))) (kind.InvalidValue, [], pending_fails) (arg_by_long c id) v) in
    stops name c _ bad.0 bad.1 _ words bad.2

same_id : (id : Text) → bytes_eq id id ≡ true
same_id id = (bytes_eq-Decides id id).1 refl

-- a word that is no flag becomes the value
value_pushed : (c : List Rule) (f : Form) (knows : Knows c f) (position : ℕ) (waits word : Text) (rows : List Row) → is_option f waits ≡ true
    → after_step c word (walk_at (held rows (Some (waits, []))) (option waits) position false) (plain_word c (option waits) word (held rows (Some (waits, [])))).0 (plain_word c (option waits) word (held rows (Some (waits, [])))).1
    ≡ walk_at (held rows (Some (waits, word ∷ []))) idle position false
value_pushed c f knows position waits word rows e =
    ap (λ o. walk_at (option_word o waits word (held rows (Some (waits, [])))).0 (option_word o waits word (held rows (Some (waits, [])))).1 position false) (knows.option waits e)
    ∙ ap (λ b. walk_at (held rows (Some (waits, word ∷ []))) (if nat_lt (if b then 1 else 0) 1 then option waits else idle) position false) (same_id waits)

read_all : (name : Text) (c : List Rule) (f : Form) (knows : Knows c f) (words : List Text) → ReadAll name c f words
unfolding walk_fault walked
read_all name c f knows [] = record {
  any = λ position left p rows pending parts none same. no_fault_after name c f knows rows pending parts none same;
  only = λ position left p rows pending parts none same. no_fault_after name c f knows rows pending parts none same;
  awaits = λ position left p id e rows parts same.
      first_stays _ _ kind.InvalidValue [] (ap (λ o. option_map_or (λ a. use_fault false a [] rows) o []) (knows.option id e));
}
read_all name c f knows (word ∷ words) =
    let later = read_all name c f knows words in
    record {
      any = λ position left p rows pending parts none same. by_any later position left p rows pending parts none same (bytes_eq word (codes "--")) (long_of word);
      only = λ position left p rows pending parts none same.
          place name c f knows word words idle position true Only (read f words) rows pending parts none same left p later.only;
      awaits = λ position left p id e rows parts same. by_value later position left p id e rows parts same (bytes_eq word (codes "--")) (long_of word);
    }
  where
    by_any : ReadAll name c f words → (position : ℕ) (left : List Text) → Places c position left → (rows : List Row) (pending : Option (Text × List Text)) (parts : List Part) → settle_fault c false (held rows pending) ≡ []
        → settled_rows c pending rows ≡ rows_at c parts → (is_dashes : Bool) (long : Option (Text × Option Text))
        → ReadsBy name c idle position word (held rows pending) words (any_read f (word_as is_dashes long (short_of word)) left parts word (read f words)) is_dashes long
    by_any later position left p rows pending parts none same true long = later.only position left p rows pending parts none same
    by_any later position left p rows pending parts none same false (Some pair) = long_any name c f knows word words later position left p rows pending parts none same pair.0 pair.1
    by_any later position left p rows pending parts none same false None =
        short_read name c f knows idle position word rows pending words (λ w. any_read f w left parts word (read f words)) refl
        (place name c f knows word words idle position false Any (read f words) rows pending parts none same left p later.any) (short_of word)

    by_value : ReadAll name c f words → (position : ℕ) (left : List Text) → Places c position left → (id : Text) → is_option f id ≡ true → (rows : List Row) (parts : List Part) → rows ≡ rows_at c parts
        → (is_dashes : Bool) (long : Option (Text × Option Text)) → ReadsBy name c (option id) position word (held rows (Some (id, []))) words (value_read id (word_as is_dashes long (short_of word)) left parts word (read f words)) is_dashes long
    by_value later position left p id e rows parts same true long =
        doomed_after name c f knows (held rows (Some (id, []))) (option id) position kind.InvalidValue [] (ap (λ o. option_map_or (λ a. use_fault false a [] rows) o []) (knows.option id e)) words
    by_value later position left p id e rows parts same false (Some pair) = long_awaited name c f knows word words position id e rows pair.0 pair.1
    by_value later position left p id e rows parts same false None =
        short_read name c f knows (option id) position word rows (Some (id, [])) words (λ w. value_read id w left parts word (read f words)) refl
        (subst (λ w. Reads name c [] w words (and_part id word parts (read f words Any left))) (sym (value_pushed c f knows position id word rows e))
        (push name c f knows words position false (read f words Any left) rows parts (option_built id) id word same (option_gives c f knows id word e) (later.any position left p)))
        (short_of word)

-- what clap makes of the words after a command's name
pub leaf_reads : (name : Text) (c : List Rule) (f : Form) → Knows c f → (words : List Text)
    → Told c (level_fault (leaf name c) [] nothing_held words false []) (walk c [] nothing_held words).held (read f words Any f.positionals [])
leaf_reads name c f knows words = (read_all name c f knows words).any 1 f.positionals knows.places [] None [] refl refl
