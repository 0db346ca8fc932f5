-- The rules of each form, and the rows that it ends with.
use Rattle.std.proofs.Common.{◌≡◌, ◌∙◌, ℕ, ◌&&◌, ◌||◌, ◌==◌, Bool, true, false, not, cond, List, [], ◌∷◌, ◌++◌, Option, Some, None, refl, sym, ap, subst, true≢false, append-nil, codes, fold}
use Rattle.std.specs.List.{find}
use Rattle.std.specs.Option.{option_map, option_map_or}
use Rattle.std.specs.Prelude.{option_and_then, slice_get, if◌then◌else◌}
use Rattle.std.specs.Str.{bytes_eq}
use Rattle.std.proofs.lemmas.Slice.Eq.{bytes_eq-Decides}
use Rattle.clap.specs.Walk.{Row, Rule, Text, arg_by_id, arg_by_index, first_of, has_row, more_values, reading_by, takes_several, with_default, with_values}
use Rattle.clap.specs.Simple.{filled_from}
use Rattle.clap.specs.Takes.{is_given as is_explicit}
use Rattle.clap.specs.Facts.{explicit_source}
use Rattle.clap.specs.Faults.{check_fault, default_fault, defaults_fault, given_default_fault}
use Rattle.clap.specs.Kinds.{or_else}
use Rattle.clap.specs.declared.error.kind.ErrorKind.TheVariants as kind
use Rattle.clap.specs.declared.parser.matches.ValueSource.TheVariants.{DefaultValue}
use Rattle.command_words.specs.Grammar.{Form, check_form, make_form, normal_form, prompt_form, replay_form, rules_of}
use Rattle.command_words.specs.Matches.{command_found}
use Rattle.command_words.specs.Words.{Part, check_of, check_words, is_true, make_of, make_words, normal_of, normal_words, prompt_of, prompt_words, replay_of, replay_words, turns_of, is_given, text_of}
use Rattle.command_words.proofs.WalkLaws.{Knows, absent, flag_built, given_row, leaf, option_built, parts_or, positional_built, row_at, rows_at}

abbrev pub built_of : Form → List Rule
built_of f = filled_from 1 (rules_of f)

named_as : (o name : Text) (X : Text → Option Rule) (rest other : Option Rule) → rest ≡ other → cond (bytes_eq o name || false) (X o) rest ≡ cond (bytes_eq o name || false) (X name) other
named_as o name X rest other e = by_test (bytes_eq o name) refl
  where
    by_test : (b : Bool) → bytes_eq o name ≡ b → cond (b || false) (X o) rest ≡ cond (b || false) (X name) other
    by_test true is = ap X ((bytes_eq-Decides o name).0 is)
    by_test false is = e

only_one : (o name : Text) → (bytes_eq o name || false) ≡ true → o ≡ name
only_one o name e = by_test (bytes_eq o name) refl e
  where
    by_test : (b : Bool) → bytes_eq o name ≡ b → (b || false) ≡ true → o ≡ name
    by_test true is e = (bytes_eq-Decides o name).0 is
    by_test false is e = absurd (true≢false (sym e))

abbrev Each : (Rule → Type 0) → List Rule → Type 0
Each P [] = Unit {0}
Each P (x ∷ xs) = P x × Each P xs

found_has : (P : Rule → Type 0) (p : Rule → Bool) (xs : List Rule) (a : Rule) → Each P xs → find p xs ≡ Some a → P a
found_has P p [] a all e = cc
found_has P p (x ∷ xs) a all e = by_test (p x) (λ is. found_has P p xs a all.1 is) e
  where
    by_test : (b : Bool) → (find p xs ≡ Some a → P a) → cond b (Some x) (find p xs) ≡ Some a → P a
    by_test true rest is = let same : x ≡ a = cc in subst P same all.0
    by_test false rest is = rest is

none_several : (c : List Rule) → Each (λ a. takes_several a ≡ false) c → (i : ℕ) (a : Rule) → arg_by_index c i ≡ Some a → takes_several a ≡ false
none_several c all i a e = found_has (λ a. takes_several a ≡ false) (λ a. option_map_or (λ k. k == i) a.index false) c a all e

-- ---- the rows at the end

abbrev row_with : List Row → Text → Option Row
row_with rows id = find (λ r. bytes_eq r.id id) rows

part_row : (c : List Rule) (id : Text) (parts : List Part) → row_with (rows_at c parts) id ≡ option_map (row_at c) (find (λ p. bytes_eq p.name id) parts)
part_row c id [] = refl
part_row c id (p ∷ parts) =
    elim (bytes_eq p.name id) as (λ b. cond b (Some (row_at c p)) (row_with (rows_at c parts) id) ≡ option_map (row_at c) (cond b (Some p) (find (λ p. bytes_eq p.name id) parts))) [
      | true ↦ refl
      | false ↦ part_row c id parts
    ]

text_row : (c : List Rule) (id : Text) (parts : List Part) → first_of id (rows_at c parts) ≡ text_of id parts
text_row c id parts = ap (option_and_then (λ r. slice_get r.values 0)) (part_row c id parts) ∙ of_found (find (λ p. bytes_eq p.name id) parts)
  where
    of_found : (o : Option Part) → option_and_then (λ r. slice_get r.values 0) (option_map (row_at c) o) ≡ option_map (λ p. p.text) o
    of_found None = refl
    of_found (Some p) = refl

explicit_row : (c : List Rule) (id : Text) (parts : List Part) → is_explicit id (rows_at c parts) ≡ is_given id parts
explicit_row c id [] = refl
explicit_row c id (p ∷ parts) =
    elim (bytes_eq p.name id) as (λ b. option_map_or (λ r. explicit_source r.source) (cond b (Some (row_at c p)) (row_with (rows_at c parts) id)) false ≡ (b || is_given id parts)) [
      | true ↦ refl
      | false ↦ explicit_row c id parts
    ]

no_default_positional : (i : ℕ) (id : Text) (rows : List Row) → with_default rows (positional_built i id) ≡ rows
no_default_positional i id rows = elim (has_row id rows) as (λ b. (if b then rows else rows) ≡ rows) [ true ↦ refl | false ↦ refl ]

no_default_option : (id : Text) (rows : List Row) → with_default rows (option_built id) ≡ rows
no_default_option id rows = elim (has_row id rows) as (λ b. (if b then rows else rows) ≡ rows) [ true ↦ refl | false ↦ refl ]

no_fault_positional : (i : ℕ) (id : Text) (rows : List Row) → default_fault rows (positional_built i id) ≡ []
no_fault_positional i id rows = elim (has_row id rows) as (λ b. (if b || true then [] else given_default_fault (positional_built i id) []) ≡ []) [ true ↦ refl | false ↦ refl ]

no_fault_option : (id : Text) (rows : List Row) → default_fault rows (option_built id) ≡ []
no_fault_option id rows = elim (has_row id rows) as (λ b. (if b || true then [] else given_default_fault (option_built id) []) ≡ []) [ true ↦ refl | false ↦ refl ]

no_fault_flag : (id : Text) (rows : List Row) → default_fault rows (flag_built id) ≡ []
no_fault_flag id rows = elim (has_row id rows) as (λ b. (if b || false then [] else given_default_fault (flag_built id) (codes "false" ∷ [])) ≡ []) [ true ↦ refl | false ↦ refl ]

abbrev flag_row : Text → Row
flag_row id = record {
  id = id;
  values = codes "false" ∷ [];
  count = None;
  source = Some DefaultValue;
  reading = reading_by (flag_built id);
}

-- a flag that is not given has a row all the same
flag_default : (c : List Rule) (id : Text) (parts : List Part) → with_default (rows_at c parts) (flag_built id) ≡ rows_at c parts ++ (if is_given id parts then [] else flag_row id ∷ [])
flag_default c id parts = by_test (is_given id parts) refl
  where
    by_test : (b : Bool) → is_given id parts ≡ b → with_default (rows_at c parts) (flag_built id) ≡ rows_at c parts ++ (if b then [] else flag_row id ∷ [])
    by_test true e = ap (λ b. if b then rows_at c parts else with_values id (reading_by (flag_built id)) DefaultValue (codes "false" ∷ []) (rows_at c parts)) (given_row c id parts ∙ e) ∙ sym (append-nil (rows_at c parts))
    by_test false e = ap (λ b. if b then rows_at c parts else with_values id (reading_by (flag_built id)) DefaultValue (codes "false" ∷ []) (rows_at c parts)) (given_row c id parts ∙ e) ∙ absent c id (more_values DefaultValue (codes "false" ∷ [])) (flag_row id ∷ []) parts e

-- other rows are as before
other_row : (rows : List Row) (r : Row) (id : Text) (b : Bool) → bytes_eq r.id id ≡ false → row_with (rows ++ (if b then [] else r ∷ [])) id ≡ row_with rows id
other_row [] r id true e = refl
other_row [] r id false e = ap (λ b. cond b (Some r) None) e
other_row (x ∷ rows) r id b e = ap (cond (bytes_eq x.id id) (Some x)) (other_row rows r id b e)

flag_other : (c : List Rule) (flag id : Text) (parts : List Part) → bytes_eq flag id ≡ false → row_with (with_default (rows_at c parts) (flag_built flag)) id ≡ row_with (rows_at c parts) id
flag_other c flag id parts e = ap (λ rows. row_with rows id) (flag_default c flag parts) ∙ other_row (rows_at c parts) (flag_row flag) id (is_given flag parts) e

-- ---- no default is at fault, and what is missing is a positional word

no_defaults : (c : List Rule) → Each (λ a. (rows : List Row) → default_fault rows a ≡ []) c → (rows : List Row) → defaults_fault rows c ≡ []
unfolding defaults_fault
no_defaults [] all rows = refl
no_defaults (a ∷ c) all rows = ap (λ ks. or_else ks (defaults_fault (with_default rows a) c)) (all.0 rows) ∙ no_defaults c all.1 (with_default rows a)

one_missing : (a b : Bool) → a ≡ b → (if not a || false then kind.MissingRequiredArgument ∷ [] else []) ≡ (if b && true then [] else kind.MissingRequiredArgument ∷ [])
one_missing true true e = refl
one_missing false false e = refl
one_missing true false e = cc
one_missing false true e = cc

two_missing : (a b x y : Bool) → a ≡ b → x ≡ y → (if not a || (not x || false) then kind.MissingRequiredArgument ∷ [] else []) ≡ (if b && (y && true) then [] else kind.MissingRequiredArgument ∷ [])
two_missing a b x y e f = subst (λ v. (if not a || (not x || false) then kind.MissingRequiredArgument ∷ [] else []) ≡ (if v && (y && true) then [] else kind.MissingRequiredArgument ∷ [])) e (second a)
  where
    second : (a : Bool) → (if not a || (not x || false) then kind.MissingRequiredArgument ∷ [] else []) ≡ (if a && (y && true) then [] else kind.MissingRequiredArgument ∷ [])
    second true = one_missing x y f
    second false = refl

abbrev pub check_rules : List Rule
check_rules = built_of check_form

finished_check : (rows : List Row) → fold with_default rows check_rules ≡ with_default rows (flag_built (codes "json"))
finished_check rows =
    ap (λ rs. with_default (with_default rs (option_built (codes "turns"))) (flag_built (codes "json"))) (no_default_positional 1 (codes "module") rows)
    ∙ ap (λ rs. with_default rs (flag_built (codes "json"))) (no_default_option (codes "turns") rows)

check_given : (id : Text) (parts : List Part) → bytes_eq (codes "json") id ≡ false → is_explicit id (fold with_default (rows_at check_rules parts) check_rules) ≡ is_given id parts
check_given id parts e =
    ap (is_explicit id) (finished_check (rows_at check_rules parts))
    ∙ (ap (λ o. option_map_or (λ r. explicit_source r.source) o false) (flag_other check_rules (codes "json") id parts e) ∙ explicit_row check_rules id parts)

pub knows_check : Knows check_rules check_form
knows_check = record {
  long = λ name. named_as (codes "turns") name (λ n. Some (option_built n)) _ _ (named_as (codes "json") name (λ n. Some (flag_built n)) None None refl);
  short = λ x. refl;
  single = none_several check_rules (refl, (refl, (refl, tt)));
  option = λ name e. subst (λ n. arg_by_id check_rules n ≡ Some (option_built n)) (only_one (codes "turns") name e) refl;
  flag = λ name e. subst (λ n. arg_by_id check_rules n ≡ Some (flag_built n)) (only_one (codes "json") name e) refl;
  places = (1, refl, refl, refl);
  ends = λ parts.
      ap (λ ks. or_else ks (check_fault (leaf [] check_rules) (fold with_default (rows_at check_rules parts) check_rules) false))
      (no_defaults check_rules (no_fault_positional 1 (codes "module"), (no_fault_option (codes "turns"), (no_fault_flag (codes "json"), tt))) (rows_at check_rules parts))
      ∙ one_missing _ _ (check_given (codes "module") parts refl);
}

abbrev pub replay_rules : List Rule
replay_rules = built_of replay_form

finished_replay : (rows : List Row) → fold with_default rows replay_rules ≡ rows
finished_replay rows = ap (λ rs. with_default rs (option_built (codes "of"))) (no_default_positional 1 (codes "file") rows) ∙ no_default_option (codes "of") rows

pub knows_replay : Knows replay_rules replay_form
knows_replay = record {
  long = λ name. named_as (codes "of") name (λ n. Some (option_built n)) None None refl;
  short = λ x. refl;
  single = none_several replay_rules (refl, (refl, tt));
  option = λ name e. subst (λ n. arg_by_id replay_rules n ≡ Some (option_built n)) (only_one (codes "of") name e) refl;
  flag = λ name e. absurd (true≢false (sym e));
  places = (1, refl, refl, refl);
  ends = λ parts.
      ap (λ ks. or_else ks (check_fault (leaf [] replay_rules) (fold with_default (rows_at replay_rules parts) replay_rules) false))
      (no_defaults replay_rules (no_fault_positional 1 (codes "file"), (no_fault_option (codes "of"), tt)) (rows_at replay_rules parts))
      ∙ one_missing _ _ (ap (is_explicit (codes "file")) (finished_replay (rows_at replay_rules parts)) ∙ explicit_row replay_rules (codes "file") parts);
}

abbrev pub prompt_rules : List Rule
prompt_rules = built_of prompt_form

finished_prompt : (rows : List Row) → fold with_default rows prompt_rules ≡ rows
finished_prompt rows = ap (λ rs. with_default rs (option_built (codes "turns"))) (no_default_positional 1 (codes "module") rows) ∙ no_default_option (codes "turns") rows

pub knows_prompt : Knows prompt_rules prompt_form
knows_prompt = record {
  long = λ name. named_as (codes "turns") name (λ n. Some (option_built n)) None None refl;
  short = λ x. refl;
  single = none_several prompt_rules (refl, (refl, tt));
  option = λ name e. subst (λ n. arg_by_id prompt_rules n ≡ Some (option_built n)) (only_one (codes "turns") name e) refl;
  flag = λ name e. absurd (true≢false (sym e));
  places = (1, refl, refl, refl);
  ends = λ parts.
      ap (λ ks. or_else ks (check_fault (leaf [] prompt_rules) (fold with_default (rows_at prompt_rules parts) prompt_rules) false))
      (no_defaults prompt_rules (no_fault_positional 1 (codes "module"), (no_fault_option (codes "turns"), tt)) (rows_at prompt_rules parts))
      ∙ one_missing _ _ (ap (is_explicit (codes "module")) (finished_prompt (rows_at prompt_rules parts)) ∙ explicit_row prompt_rules (codes "module") parts);
}

abbrev pub normal_rules : List Rule
normal_rules = built_of normal_form

finished_normal : (rows : List Row) → fold with_default rows normal_rules ≡ rows
finished_normal rows =
    ap (λ rs. with_default (with_default rs (positional_built 2 (codes "name"))) (option_built (codes "turns"))) (no_default_positional 1 (codes "module") rows)
    ∙ (ap (λ rs. with_default rs (option_built (codes "turns"))) (no_default_positional 2 (codes "name") rows) ∙ no_default_option (codes "turns") rows)

pub knows_normal : Knows normal_rules normal_form
knows_normal = record {
  long = λ name. named_as (codes "turns") name (λ n. Some (option_built n)) None None refl;
  short = λ x. refl;
  single = none_several normal_rules (refl, (refl, (refl, tt)));
  option = λ name e. subst (λ n. arg_by_id normal_rules n ≡ Some (option_built n)) (only_one (codes "turns") name e) refl;
  flag = λ name e. absurd (true≢false (sym e));
  places = (1, refl, refl, (2, refl, refl, refl));
  ends = λ parts.
      ap (λ ks. or_else ks (check_fault (leaf [] normal_rules) (fold with_default (rows_at normal_rules parts) normal_rules) false))
      (no_defaults normal_rules (no_fault_positional 1 (codes "module"), (no_fault_positional 2 (codes "name"), (no_fault_option (codes "turns"), tt))) (rows_at normal_rules parts))
      ∙ two_missing _ _ _ _ (ap (is_explicit (codes "module")) (finished_normal (rows_at normal_rules parts)) ∙ explicit_row normal_rules (codes "module") parts)
      (ap (is_explicit (codes "name")) (finished_normal (rows_at normal_rules parts)) ∙ explicit_row normal_rules (codes "name") parts);
}

abbrev pub make_rules : List Rule
make_rules = built_of make_form

pub knows_make : Knows make_rules make_form
knows_make = record {
  long = λ name. refl;
  short = λ x. refl;
  single = none_several make_rules (refl, tt);
  option = λ name e. absurd (true≢false (sym e));
  flag = λ name e. absurd (true≢false (sym e));
  places = (1, refl, refl, refl);
  ends = λ parts.
      ap (λ ks. or_else ks (check_fault (leaf [] make_rules) (fold with_default (rows_at make_rules parts) make_rules) false))
      (no_defaults make_rules (no_fault_positional 1 (codes "count"), tt) (rows_at make_rules parts))
      ∙ one_missing _ _ (ap (is_explicit (codes "count")) (no_default_positional 1 (codes "count") (rows_at make_rules parts)) ∙ explicit_row make_rules (codes "count") parts);
}

-- ---- what is read of the rows at the end is what was given

not_given : (id : Text) (parts : List Part) → is_given id parts ≡ false → text_of id parts ≡ None
not_given id [] e = refl
not_given id (p ∷ parts) e =
    let both = parts_or _ _ e in
    ap (λ b. option_map (λ p. p.text) (cond b (Some p) (find (λ p. bytes_eq p.name id) parts))) both.0 ∙ not_given id parts both.1

last_row : (c : List Rule) (id : Text) (r : Row) (parts : List Part) → is_given id parts ≡ false → row_with (rows_at c parts ++ r ∷ []) id ≡ row_with (r ∷ []) id
last_row c id r [] e = refl
last_row c id r (p ∷ parts) e =
    let both = parts_or _ _ e in
    ap (λ b. cond b (Some (row_at c p)) (row_with (rows_at c parts ++ r ∷ []) id)) both.0 ∙ last_row c id r parts both.1

abbrev text_in : Option Row → Option Text
text_in = option_and_then (λ r. slice_get r.values 0)

check_text : (id : Text) (parts : List Part) → bytes_eq (codes "json") id ≡ false → first_of id (fold with_default (rows_at check_rules parts) check_rules) ≡ text_of id parts
check_text id parts e =
    ap (first_of id) (finished_check (rows_at check_rules parts)) ∙ (ap text_in (flag_other check_rules (codes "json") id parts e) ∙ text_row check_rules id parts)

check_flag : (parts : List Part) → is_true (first_of (codes "json") (fold with_default (rows_at check_rules parts) check_rules)) ≡ is_true (text_of (codes "json") parts)
check_flag parts =
    ap (λ rows. is_true (first_of (codes "json") rows)) (finished_check (rows_at check_rules parts) ∙ flag_default check_rules (codes "json") parts)
    ∙ by_test (is_given (codes "json") parts) refl
  where
    by_test : (b : Bool) → is_given (codes "json") parts ≡ b → is_true (first_of (codes "json") (rows_at check_rules parts ++ (if b then [] else flag_row (codes "json") ∷ []))) ≡ is_true (text_of (codes "json") parts)
    by_test true e = ap (λ rows. is_true (first_of (codes "json") rows)) (append-nil (rows_at check_rules parts)) ∙ ap is_true (text_row check_rules (codes "json") parts)
    by_test false e = ap (λ o. is_true (text_in o)) (last_row check_rules (codes "json") (flag_row (codes "json")) parts e) ∙ sym (ap is_true (not_given (codes "json") parts e))

pub same_check : (parts : List Part) → command_found (codes "check") (fold with_default (rows_at check_rules parts) check_rules) ≡ check_of parts
same_check parts =
    ap (λ m. check_words m (turns_of (first_of (codes "turns") (fold with_default (rows_at check_rules parts) check_rules))) (is_true (first_of (codes "json") (fold with_default (rows_at check_rules parts) check_rules)))) (check_text (codes "module") parts refl)
    ∙ (ap (λ t. check_words (text_of (codes "module") parts) (turns_of t) (is_true (first_of (codes "json") (fold with_default (rows_at check_rules parts) check_rules)))) (check_text (codes "turns") parts refl)
    ∙ ap (check_words (text_of (codes "module") parts) (turns_of (text_of (codes "turns") parts))) (check_flag parts))

pub same_replay : (parts : List Part) → command_found (codes "replay") (fold with_default (rows_at replay_rules parts) replay_rules) ≡ replay_of parts
same_replay parts =
    ap (command_found (codes "replay")) (finished_replay (rows_at replay_rules parts))
    ∙ (ap (λ m. replay_words m (first_of (codes "of") (rows_at replay_rules parts))) (text_row replay_rules (codes "file") parts) ∙ ap (replay_words (text_of (codes "file") parts)) (text_row replay_rules (codes "of") parts))

pub same_normal : (parts : List Part) → command_found (codes "normal") (fold with_default (rows_at normal_rules parts) normal_rules) ≡ normal_of parts
same_normal parts =
    ap (command_found (codes "normal")) (finished_normal (rows_at normal_rules parts))
    ∙ (ap (λ m. normal_words m (first_of (codes "name") (rows_at normal_rules parts)) (turns_of (first_of (codes "turns") (rows_at normal_rules parts)))) (text_row normal_rules (codes "module") parts)
    ∙ (ap (λ m. normal_words (text_of (codes "module") parts) m (turns_of (first_of (codes "turns") (rows_at normal_rules parts)))) (text_row normal_rules (codes "name") parts)
    ∙ ap (λ t. normal_words (text_of (codes "module") parts) (text_of (codes "name") parts) (turns_of t)) (text_row normal_rules (codes "turns") parts)))

pub same_prompt : (parts : List Part) → command_found (codes "prompt") (fold with_default (rows_at prompt_rules parts) prompt_rules) ≡ prompt_of parts
same_prompt parts =
    ap (command_found (codes "prompt")) (finished_prompt (rows_at prompt_rules parts))
    ∙ (ap (λ m. prompt_words m (turns_of (first_of (codes "turns") (rows_at prompt_rules parts)))) (text_row prompt_rules (codes "module") parts) ∙ ap (λ t. prompt_words (text_of (codes "module") parts) (turns_of t)) (text_row prompt_rules (codes "turns") parts))

pub same_make : (parts : List Part) → command_found (codes "make") (fold with_default (rows_at make_rules parts) make_rules) ≡ make_of parts
same_make parts = ap (command_found (codes "make")) (no_default_positional 1 (codes "count") (rows_at make_rules parts)) ∙ ap make_words (text_row make_rules (codes "count") parts)
