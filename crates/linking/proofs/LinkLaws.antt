-- One module after another.
use Rattle.std.proofs.Common.{◌≡◌, ◌<◌, ◌≤◌, ◌+◌, ◌-◌, ℕ, zero, suc, Bool, true, false, if◌then◌else◌, List, [], ◌∷◌, ◌++◌, map, length, take, reverse, get_or, bytes_eq, refl, sym, ◌∙◌, ap, subst, arith, append_assoc, None}
use Rattle.std.specs.List.{All, flat_map, list_any}
use Rattle.std.proofs.lemmas.List.{get_or-map, get_or-reverse, map_push, reverse-append, reverse-reverse, length-append, length-map, length-reverse, take-map}
use Rattle.std.proofs.lemmas.List.Concat.{flat_map-append}
use Rattle.translation.specs.declared.fault.ScopeFault.{ScopeFault}
use Rattle.translation.specs.Scopes.{Scope, context_of}
use Rattle.translation.specs.Translated.{Translated, Stated, Refuses, done, ◌>>=◌, judgements_of}
use Rattle.translation.specs.Names.{Word}
use Rattle.translation.specs.Texts.{Written, block}
use Rattle.codes.specs.declared.code.CodeDef.{CodeDef, out-CodeDef}
use Rattle.codes.specs.Codes.{body_of, definition, definitions}
use Rattle.codes.specs.Shapes.{def_shape, listed}
use Rattle.codes.proofs.Logs.{append_empty, judgements_append, map_append, then_assoc, then_same}
use Rattle.scopes.specs.declared.scope.Scope.{Scope as ScopeOf}
use Rattle.scopes.specs.declared.scope.ScopeName.{ScopeName}
use Rattle.scopes.specs.Steps.{count_from, named_of}
use Rattle.scopes.proofs.Moving.{count_append}
use Rattle.resolved_forms.specs.Shaped.{Become, after_definition}
use Rattle.module_texts.specs.declared.text.ModuleText.{ModuleText}
use Rattle.module_texts.specs.Texts.{Text, imports_of, name_of, text_of}
use Rattle.resolver.specs.declared.resolving.Codes.{Codes}
use Rattle.resolver.specs.Resolved.{AreCodes, AreEarlier, AreSpelt, Holds, IsFaultOf, Leaves, bound_as, bound_by, definitions_of, entry, words, defs_in as codes_in}
use Rattle.resolver.proofs.Leaving.{words_append, words_kept}
use Rattle.linking.specs.declared.known.Known.{Known as Kept}
use Rattle.linking.specs.declared.linked.Linker.{Linker}
use Rattle.linking.specs.Modules.{Known, AreFine, RefusedFirst, and_known, defs_in, judgements, known_as, meaning_after, meanings, meanings_after, names_in, reached}
use Rattle.linking.specs.Reaching.{Numbered, Stand, Sees, are_among, names_of}
use Rattle.linking.specs.Linked.{AllBecome, ModuleBecomes, HasLinked, IsLinked, Keeps, known_after, meaning_of_next, numbered_as, with_bodies}
use Rattle.linking.proofs.ReachLaws.{all_append, all_one, names_push, take_more}

-- the names of modules
abbrev name_list : List Text → List (List ℕ)
name_list = map (λ (x : Text). x.name)

named_texts : (ms : List ModuleText) → map name_of ms ≡ name_list (map text_of ms)
named_texts [] = refl
named_texts (m ∷ ms) = ap (λ ns. name_of m ∷ ns) (named_texts ms)

pub among_texts : {flags : List Bool} (names : List (List ℕ)) (ms : List ModuleText) → flags ≡ are_among names (map name_of ms) → flags ≡ are_among names (name_list (map text_of ms))
among_texts names ms e = e ∙ ap (are_among names) (named_texts ms)

counted : (n k : ℕ) → length (count_from n k) ≡ n
counted zero k = refl
counted (suc n) k = ap (λ m. suc m) (counted n (suc k))

take_front : {A : Type 0} (xs ys : List A) (n : ℕ) → n ≡ length xs → take n (xs ++ ys) ≡ xs
take_front [] ys zero e = refl
take_front [] ys (suc n) e = absurd (omega arith)
take_front (x ∷ xs) ys zero e = absurd (omega arith)
take_front (x ∷ xs) ys (suc n) e = ap (λ zs. x ∷ zs) (take_front xs ys n (omega arith))

-- one module more

named_more : {A B C : Type 0} (f : A → B) (g : C → List B) (ls rs all : List A) (cs : List C) (c : C) → all ≡ ls ++ rs → map f ls ≡ flat_map g cs → map f rs ≡ g c → map f all ≡ flat_map g (cs ++ c ∷ [])
named_more f g ls rs all cs c is before here =
    ap (map f) is ∙ map_append f ls rs ∙ ap (λ ns. ns ++ map f rs) before ∙ ap (λ ns. flat_map g cs ++ ns) (here ∙ sym (append_empty (g c)))
    ∙ sym (flat_map-append g cs (c ∷ []))

become_more : (known : List Numbered) (xs : List Text) (x : Text) (cs ds all : List CodeDef) (last : List Numbered) → all ≡ cs ++ ds
    → AllBecome known xs cs last → ModuleBecomes last x ds → AllBecome known (xs ++ x ∷ []) all (numbered_as x ds ∷ last)
become_more known [] x cs ds all last is h k =
    (ds, [], is ∙ ap (λ es. es ++ ds) h.0 ∙ sym (append_empty ds), subst (λ ns. ModuleBecomes ns x ds) h.1 k, (refl, ap (λ ns. numbered_as x ds ∷ ns) h.1))
become_more known (y ∷ ys) x cs ds all last is (first, rest, split, here, others) k =
    (first, rest ++ ds, is ∙ ap (λ es. es ++ ds) split ∙ append_assoc first rest ds, here, become_more (numbered_as y first ∷ known) ys x rest ds (rest ++ ds) last refl others k)

known_more : (known : List Known) (xs : List Text) (x : Text) → known_after known (xs ++ x ∷ []) ≡ and_known (known_after known xs) x
known_more known [] x = refl
known_more known (y ∷ ys) x = known_more (and_known known y) ys x

meanings_more : (known : List Known) (xs : List Text) (x : Text) → meanings_after known (xs ++ x ∷ []) ≡ meanings_after known xs ++ meaning_after (known_after known xs) x ∷ []
meanings_more known [] x = refl
meanings_more known (y ∷ ys) x = ap (λ ms. meaning_after known y ∷ ms) (meanings_more (and_known known y) ys x)

names_known : (known : List Known) (xs : List Text) → names_of (known_after known xs) ≡ names_of known ++ name_list xs
names_known known [] = sym (append_empty (names_of known))
names_known known (x ∷ xs) =
    names_known (and_known known x) xs ∙ ap (λ ns. ns ++ name_list xs) (names_push (known_as x (meaning_after known x).value) known)
    ∙ append_assoc (names_of known) (x.name ∷ []) (name_list xs)

definitions_append : (cs ds : List CodeDef) (H : Scope ℕ) → definitions (cs ++ ds) H ≡ (definitions cs H >>= λ K. definitions ds K)
definitions_append [] ds H = refl
definitions_append (c ∷ cs) ds H =
    then_same (definition c H) (λ K. definitions (cs ++ ds) K) (λ K. definitions cs K >>= λ L. definitions ds L) (definitions_append cs ds (definition c H).value)
    ∙ sym (then_assoc (definition c H) (λ K. definitions cs K) (λ K. definitions ds K))

length_meanings : (known : List Known) (xs : List Text) → length (meanings_after known xs) ≡ length xs
length_meanings known [] = refl
length_meanings known (x ∷ xs) = let h = length_meanings (and_known known x) xs in omega arith

-- modules by their numbers, and by what their texts mean

all_reversed : {A : Type 0} (P : A → Type 0) (xs : List A) → All P xs → All P (reverse xs)
all_reversed P xs h k d l =
    let within : k < length xs = subst (λ n. k < n) (length-reverse xs) l in
    subst P (sym (get_or-reverse xs k d within)) (h (length xs - 1 - k) d (omega arith))

bodies_kept : (H K : Scope ℕ) (next : ℕ) (ds : List ScopeName) → ((n : ℕ) → n < next → body_of K n ≡ body_of H n) → AreEarlier next ds → map (entry K) ds ≡ map (entry H) ds
bodies_kept H K next ds kept e =
    ap (map (entry K)) (sym (reverse-reverse ds))
    ∙ sym (words_kept H K next (reverse ds) kept (all_reversed (λ n. n.def < next) ds e))
    ∙ ap (map (entry H)) (reverse-reverse ds)

all_kept : (H K : Scope ℕ) (next : ℕ) (ms : List Numbered) → ((n : ℕ) → n < next → body_of K n ≡ body_of H n) → All (λ (m : Numbered). AreEarlier next m.defs) ms
    → map (with_bodies K) ms ≡ map (with_bodies H) ms
all_kept H K next [] kept e = refl
all_kept H K next (m ∷ ms) kept e =
    ap (λ ds. record { name = m.name; imports = m.imports; defs = ds } ∷ map (with_bodies K) ms) (bodies_kept H K next m.defs kept (e 0 m (omega arith)))
    ∙ ap (λ xs. with_bodies H m ∷ xs) (all_kept H K next ms kept (λ i f l. e (suc i) f (omega arith)))

later : (next more : ℕ) (ms : List Numbered) → next ≤ more → All (λ (m : Numbered). AreEarlier next m.defs) ms → All (λ (m : Numbered). AreEarlier more m.defs) ms
later next more ms l e i d within j f inner = let h = e i d within j f inner in omega arith

names_same : (H : Scope ℕ) (ms : List Numbered) → names_of (map (with_bodies H) ms) ≡ names_of ms
names_same H [] = refl
names_same H (m ∷ ms) =
    names_push (with_bodies H m) (map (with_bodies H) ms) ∙ ap (λ ns. ns ++ m.name ∷ []) (names_same H ms) ∙ sym (names_push m ms)

reached_bodies : (H : Scope ℕ) (ms : List Numbered) (names : List (List ℕ)) → reached (map (with_bodies H) ms) names ≡ map (entry H) (reached ms names)
reached_bodies H [] names = refl
reached_bodies H (m ∷ ms) names =
    elim (list_any (bytes_eq m.name) names) as (λ v. (if v then map (entry H) m.defs ++ reached (map (with_bodies H) ms) (names ++ m.imports) else reached (map (with_bodies H) ms) names)
    ≡ map (entry H) (if v then m.defs ++ reached ms (names ++ m.imports) else reached ms names)) [
      | true ↦ ap (λ es. map (entry H) m.defs ++ es) (reached_bodies H ms (names ++ m.imports)) ∙ sym (map_append (entry H) m.defs (reached ms (names ++ m.imports)))
      | false ↦ reached_bodies H ms names
    ]

reached_earlier : (next : ℕ) (ms : List Numbered) (names : List (List ℕ)) → All (λ (m : Numbered). AreEarlier next m.defs) ms → AreEarlier next (reached ms names)
reached_earlier next [] names e = λ k d l. absurd (omega arith)
reached_earlier next (m ∷ ms) names e =
    let rest : All (λ (x : Numbered). AreEarlier next x.defs) ms = λ i f l. e (suc i) f (omega arith) in
    elim (list_any (bytes_eq m.name) names) as (λ v. AreEarlier next (if v then m.defs ++ reached ms (names ++ m.imports) else reached ms names)) [
      | true ↦ all_append (λ n. n.def < next) m.defs (reached ms (names ++ m.imports)) (e 0 m (omega arith)) (reached_earlier next ms (names ++ m.imports) rest)
      | false ↦ reached_earlier next ms names rest
    ]

pub starts : (s : Linker) → codes_in s.codes ≡ [] → s.codes.next ≡ 0 → s.known.items ≡ [] → HasLinked [] s
starts s none next known = record {
  linked = record {
    fine = λ k d l. absurd (omega arith);
    judgements_are = ap (λ cs. judgements_of (definitions cs []).stated) none;
    known = [];
    spelt = (none, refl);
    named = ap (map (λ c. (out-CodeDef c).name)) none;
    numbered = ap (λ cs. map (λ (d : Stated ℕ). d.name) (definitions cs []).stated) none ∙ sym (ap (λ cs. count_from (length (definitions cs []).stated) 0) none);
    next_is = next ∙ sym (ap (λ cs. length (definitions cs []).stated) none);
  };
  top = ap (λ cs. context_of (definitions cs []).value) none;
  stand = subst (λ ks. Stand [] (reverse ks)) (sym known) tt;
  earlier = λ k d l. absurd (omega arith);
  known_are = refl;
}

module _ (before : List Text) (x : Text) (s : Linker) (h : HasLinked before s) where
  named_before : names_of h.linked.known ≡ name_list before
  named_before =
      let H = (definitions (codes_in s.codes) []).value in
      sym (names_same H h.linked.known) ∙ sym (ap (λ (ms : List Known). names_of ms) h.known_are) ∙ names_known [] before

  pub wants : (flags : List Bool) → flags ≡ are_among (imports_of x) (name_list before) → flags ≡ are_among (imports_of x) (names_of h.linked.known)
  wants flags e = e ∙ ap (are_among (imports_of x)) (sym named_before)

  module _ (flags : List Bool) (scope : ScopeOf) (are : flags ≡ are_among (imports_of x) (name_list before)) (sees : Sees s.known.items flags s.codes.next scope) where
    H : Scope ℕ
    H = (definitions (codes_in s.codes) []).value

    by_numbers : reverse scope.names ≡ reached h.linked.known (imports_of x)
    by_numbers = sees.sees h.linked.known (imports_of x) h.stand (wants flags are)

    seen : words (definitions (codes_in s.codes) []).value scope.names ≡ reached (known_after [] before) (imports_of x)
    seen =
        let H = (definitions (codes_in s.codes) []).value in
        ap (map (entry H)) by_numbers ∙ sym (reached_bodies H h.linked.known (imports_of x)) ∙ sym (ap (λ (ms : List Known). reached ms (imports_of x)) h.known_are)

    pub scope_earlier : AreEarlier scope.next scope.names
    scope_earlier =
        subst (λ n. AreEarlier n scope.names) (sym sees.next_is)
        (subst (AreEarlier s.codes.next) (reverse-reverse scope.names)
        (all_reversed (λ n. n.def < s.codes.next) (reverse scope.names) (subst (AreEarlier s.codes.next) (sym by_numbers) (reached_earlier s.codes.next h.linked.known (imports_of x) h.earlier))))

    spelt : Translated Word (Scope Word)
    spelt = block x.bytes (defs_in x) (words H scope.names)

    is_meaning : block x.bytes (defs_in x) (words (definitions (codes_in s.codes) []).value scope.names) ≡ meaning_of_next before x
    is_meaning = ap (block x.bytes (defs_in x)) seen

    pub refused_next : (fault : ScopeFault) → IsFaultOf x.bytes scope.names x.tree fault → Refuses fault (meaning_of_next before x).refusal
    refused_next fault is = subst (λ m. Refuses fault m.refusal) is_meaning (is (definitions (codes_in s.codes) []).value h.top)

    module _ (codes : Codes) (new : Linker) (resolved : AreCodes x.bytes scope.names scope.next x.tree codes) (shaped : AreSpelt x.bytes scope.names x.tree codes) (kept : Keeps x flags codes s new) where
      first : Translated ℕ (Scope ℕ)
      first = definitions (codes_in s.codes) []

      second : Translated ℕ (Scope ℕ)
      second = definitions (codes_in codes) (definitions (codes_in s.codes) []).value

      holds : Holds scope.next (block x.bytes (defs_in x) (words (definitions (codes_in s.codes) []).value scope.names)) (definitions (codes_in codes) (definitions (codes_in s.codes) []).value)
      holds = resolved.holds (definitions (codes_in s.codes) []).value h.top

      leaves : Leaves scope.names (bound_by x.bytes (codes_in codes)) scope.next
          (length (block x.bytes (defs_in x) (words (definitions (codes_in s.codes) []).value scope.names)).stated)
          (definitions (codes_in s.codes) []).value (block x.bytes (defs_in x) (words (definitions (codes_in s.codes) []).value scope.names)).value
          (definitions (codes_in codes) (definitions (codes_in s.codes) []).value).value
      leaves = resolved.leaves (definitions (codes_in s.codes) []).value h.top

      name : Stated ℕ → ℕ
      name d = d.name

      -- the definitions of all modules
      all_is : definitions (codes_in new.codes) [] ≡ (definitions (codes_in s.codes) [] >>= λ K. definitions (codes_in codes) K)
      all_is = ap (λ cs. definitions cs []) kept.defs_are ∙ definitions_append (codes_in s.codes) (codes_in codes) []

      count : length second.stated ≡ length spelt.stated
      unfolding second spelt H
      count = sym (length-map second.stated (λ (d : Stated ℕ). d.name)) ∙ ap length holds.numbered ∙ counted (length spelt.stated) scope.next

      next : scope.next ≡ length first.stated
      unfolding first
      next = sees.next_is ∙ h.linked.next_is

      fine : AreFine (meanings (before ++ x ∷ []))
      fine = subst AreFine (sym (meanings_more [] before x))
          (all_append (λ (m : Translated Word (Scope Word)). m.refusal ≡ None) (meanings before) (meaning_of_next before x ∷ []) h.linked.fine
          (all_one (λ (m : Translated Word (Scope Word)). m.refusal ≡ None) (meaning_of_next before x) (subst (λ m. m.refusal ≡ None) is_meaning holds.fits)))

      judgements_more : judgements (before ++ x ∷ []) ≡ judgements before ++ judgements_of (meaning_of_next before x).stated
      judgements_more =
          let f = λ (m : Translated Word (Scope Word)). judgements_of m.stated in
          ap (flat_map f) (meanings_more [] before x) ∙ flat_map-append f (meanings before) (meaning_of_next before x ∷ [])
          ∙ ap (λ js. judgements before ++ js) (append_empty (judgements_of (meaning_of_next before x).stated))

      linked : IsLinked (before ++ x ∷ []) new.codes
      unfolding first second spelt H name
      linked = record {
        fine = fine;
        judgements_are = ap (λ m. judgements_of m.stated) all_is ∙ judgements_append first.stated second.stated
            ∙ ap (λ js. js ++ judgements_of second.stated) h.linked.judgements_are
            ∙ ap (λ js. judgements before ++ js) (holds.judgements ∙ ap (λ m. judgements_of m.stated) is_meaning)
            ∙ sym judgements_more;
        known = numbered_as x (codes_in codes) ∷ h.linked.known;
        spelt = become_more [] before x (codes_in s.codes) (codes_in codes) (codes_in new.codes) h.linked.known kept.defs_are h.linked.spelt
            (subst (λ ns. Become x.bytes (after_definition x.bytes) (definitions_of x.tree) (map named_of ns) (listed def_shape (codes_in codes))) by_numbers shaped);
        named = named_more (λ c. (out-CodeDef c).name) names_in (codes_in s.codes) (codes_in codes) (codes_in new.codes) before x kept.defs_are h.linked.named resolved.named;
        numbered =
            let together = length-append first.stated second.stated in
            let from : count_from (length spelt.stated) scope.next ≡ count_from (length second.stated) (0 + length first.stated) =
            ap (λ n. count_from n scope.next) (sym count) ∙ ap (count_from (length second.stated)) (let n = next in omega arith) in
            ap (λ m. map (λ (d : Stated ℕ). d.name) m.stated) all_is ∙ map_append (λ (d : Stated ℕ). d.name) first.stated second.stated
            ∙ ap (λ ns. ns ++ map (λ (d : Stated ℕ). d.name) second.stated) h.linked.numbered
            ∙ ap (λ ns. count_from (length first.stated) 0 ++ ns) (holds.numbered ∙ from)
            ∙ sym (count_append (length first.stated) (length second.stated) 0)
            ∙ ap (λ n. count_from n 0) (sym together)
            ∙ sym (ap (λ m. count_from (length m.stated) 0) all_is);
        next_is =
            let together = length-append first.stated second.stated in
            kept.next_is ∙ resolved.counted (definitions (codes_in s.codes) []).value h.top
            ∙ (let n = next in let c = count in omega arith) ∙ sym together ∙ sym (ap (λ m. length m.stated) all_is);
      }

      -- the module by what its text means
      here_is : known_as x (meaning_of_next before x).value ≡ with_bodies (definitions (codes_in codes) (definitions (codes_in s.codes) []).value).value (numbered_as x (codes_in codes))
      unfolding spelt H
      here_is =
          let K = (definitions (codes_in codes) (definitions (codes_in s.codes) []).value).value in
          let bound = bound_by x.bytes (codes_in codes) in
          let value : (meaning_of_next before x).value ≡ words K bound ++ words K scope.names =
          sym (ap (λ m. m.value) is_meaning) ∙ leaves.named ∙ words_append K scope.names bound in
          let long : length (defs_in x) ≡ length (words K bound) =
          sym (length-map (defs_in x) (λ (d : Written). d.name)) ∙ sym (ap length resolved.named) ∙ length-map (codes_in codes) (λ c. (out-CodeDef c).name)
          ∙ sym (length-map (codes_in codes) (bound_as x.bytes)) ∙ sym (length-reverse bound) ∙ sym (length-map (reverse bound) (entry K)) in
          ap (λ ds. record { name = x.name; imports = imports_of x; defs = ds })
          (ap (take (length (defs_in x))) value ∙ take_front (words K bound) (words K scope.names) (length (defs_in x)) long)

      pub links : HasLinked (before ++ x ∷ []) new
      unfolding first second linked
      links =
          let H = (definitions (codes_in s.codes) []).value in
          let K = (definitions (codes_in codes) (definitions (codes_in s.codes) []).value).value in
          let mine = codes_in codes in
          let bound = bound_by x.bytes mine in
          let next_new : new.codes.next ≡ scope.next + length (block x.bytes (defs_in x) (words (definitions (codes_in s.codes) []).value scope.names)).stated =
          kept.next_is ∙ resolved.counted (definitions (codes_in s.codes) []).value h.top in
          let same : K ≡ (definitions (codes_in new.codes) []).value = sym (ap (λ m. m.value) all_is) in
          let below : AreEarlier new.codes.next (reverse bound) = all_reversed (λ n. n.def < new.codes.next) bound (subst (λ n. AreEarlier n bound) (sym next_new) leaves.below) in
          let bodies : known_after [] (before ++ x ∷ []) ≡ map (with_bodies K) (numbered_as x mine ∷ h.linked.known) =
          known_more [] before x ∙ ap (λ m. m ∷ known_after [] before) here_is
          ∙ ap (λ (ms : List Known). with_bodies K (numbered_as x mine) ∷ ms) (h.known_are
          ∙ sym (all_kept H K s.codes.next h.linked.known (λ n l. leaves.kept n (let e = sees.next_is in omega arith)) h.earlier)) in
          record {
            linked = linked;
            top = ap (λ m. context_of m.value) all_is ∙ leaves.top;
            stand = subst (Stand (numbered_as x mine ∷ h.linked.known)) (sym (ap reverse kept.all_known ∙ reverse-append s.known.items (kept.known ∷ [])))
                (kept.imports_are ∙ wants flags are, ap reverse (sym kept.names_are), h.stand);
            earlier = all_append (λ (m : Numbered). AreEarlier new.codes.next m.defs) (numbered_as x mine ∷ []) h.linked.known
                (all_one (λ (m : Numbered). AreEarlier new.codes.next m.defs) (numbered_as x mine) below)
                (later s.codes.next new.codes.next h.linked.known (let e = next_new in let d = sees.next_is in omega arith) h.earlier);
            known_are = bodies ∙ ap (λ G. map (with_bodies G) (numbered_as x mine ∷ h.linked.known)) same;
          }

-- what is seen, of the same
pub seen_of : {known ks : List Kept} {flags fs : List Bool} {next n : ℕ} {scope : ScopeOf} → ks ≡ known → fs ≡ flags → n ≡ next → Sees ks fs n scope → Sees known flags next scope
seen_of {known} {ks} {flags} {fs} {next} {n} {scope} e d c s =
    subst (λ x. Sees x flags next scope) e (subst (λ x. Sees ks x next scope) d (subst (λ x. Sees ks fs x scope) c s))

-- as many modules are kept as are known

stand_length : (ms : List Numbered) (ks : List Kept) → Stand ms ks → length ms ≡ length ks
stand_length [] [] h = refl
stand_length [] (k ∷ ks) h = absurd h
stand_length (m ∷ ms) [] h = absurd h
stand_length (m ∷ ms) (k ∷ ks) h = let l = stand_length ms ks h.2 in omega arith

known_length : (known : List Known) (xs : List Text) → length (known_after known xs) ≡ length known + length xs
known_length known [] = omega arith
known_length known (x ∷ xs) = let h = known_length (and_known known x) xs in omega arith

pub kept_length : (before : List Text) (s : Linker) (names : List (List ℕ)) → HasLinked before s → length (are_among names (name_list before)) ≡ length s.known.items
kept_length before s names h =
    let H = (definitions (codes_in s.codes) []).value in
    let a = stand_length h.linked.known (reverse s.known.items) h.stand in
    let b : length h.linked.known ≡ length (known_after [] before) = sym (length-map h.linked.known (with_bodies H)) ∙ sym (ap length h.known_are) in
    let d = known_length [] before in
    let c = length-reverse s.known.items in
    length-map (name_list before) (λ x. list_any (bytes_eq x) names) ∙ length-map before (λ (x : Text). x.name) ∙ (omega arith)

-- so many modules, and the next
pub next_linked : (texts front : List ModuleText) (at : ℕ) (x : ModuleText) (s : Linker) → at < length texts → front ≡ take at texts → x ≡ get_or texts at x
    → HasLinked (map text_of front ++ text_of x ∷ []) s → HasLinked (map text_of (take (at + 1) texts)) s
next_linked texts front at x s l f e h =
    let more : suc at ≡ at + 1 = omega arith in
    subst (λ ts. HasLinked ts s)
    (sym (map_push text_of front x)
    ∙ ap (map text_of) (ap (λ b. b ++ x ∷ []) f ∙ ap (λ y. take at texts ++ y ∷ []) e ∙ sym (take_more texts at x l) ∙ ap (λ n. take n texts) more)) h

-- the first that is refused

take_meanings : (known : List Known) (xs : List Text) (n : ℕ) → take n (meanings_after known xs) ≡ meanings_after known (take n xs)
take_meanings known [] zero = refl
take_meanings known [] (suc n) = refl
take_meanings known (x ∷ xs) zero = refl
take_meanings known (x ∷ xs) (suc n) = ap (λ ms. meaning_after known x ∷ ms) (take_meanings (and_known known x) xs n)

meaning_at : (known : List Known) (xs : List Text) (n : ℕ) (d : Text) (e : Translated Word (Scope Word)) → n < length xs
    → get_or (meanings_after known xs) n e ≡ meaning_after (known_after known (take n xs)) (get_or xs n d)
meaning_at known [] n d e l = absurd (omega arith)
meaning_at known (x ∷ xs) zero d e l = refl
meaning_at known (x ∷ xs) (suc n) d e l = meaning_at (and_known known x) xs n d e (omega arith)

pub refused_first : (texts before : List ModuleText) (at : ℕ) (s : Linker) (x : ModuleText) (fault : ScopeFault) → at < length texts → before ≡ take at texts → x ≡ get_or texts at x
    → HasLinked (map text_of (take at texts)) s → Refuses fault (meaning_of_next (map text_of before) (text_of x)).refusal → RefusedFirst (map text_of texts) at fault
refused_first texts before at s x fault l front is h r =
    let all = map text_of texts in
    let firsts : take at all ≡ map text_of (take at texts) = take-map text_of at texts in
    let inside : at < length all = subst (λ n. at < n) (sym (length-map texts text_of)) l in
    let here : text_of x ≡ get_or all at (text_of x) = ap text_of is ∙ sym (get_or-map text_of texts at x (text_of x) l) in
    record {
      within = inside;
      fine = subst AreFine (ap meanings (sym firsts) ∙ sym (take_meanings [] all at)) h.linked.fine;
      refuses = subst (λ m. Refuses fault m.refusal)
          (ap (λ b. meaning_of_next b (text_of x)) (ap (map text_of) front ∙ sym firsts) ∙ ap (meaning_of_next (take at all)) here
          ∙ sym (meaning_at [] all at (text_of x) (done []) inside)) r;
    }
