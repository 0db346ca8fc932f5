-- The names of definitions behind all of them.
use Rattle.std.proofs.Common.{◌≡◌, ◌<◌, ◌≤◌, ◌+◌, ℕ, zero, suc, List, [], ◌∷◌, ◌++◌, map, length, take, slice_get, slice_index_or, refl, sym, ◌∙◌, ap, subst, arith, Some, None}
use Rattle.std.proofs.lemmas.List.{length-map, take_all}
use Rattle.std.specs.List.{All}
use Rattle.trees.specs.Judgements.{Nil}
use Rattle.translation.specs.Scopes.{Definition, Scope, context_of}
use Rattle.translation.specs.Translated.{Stated, done}
use Rattle.translation.specs.Forms.{Means, define, defined}
use Rattle.codes.specs.declared.code.CodeDef.{CodeDef, CodeDef', out-CodeDef}
use Rattle.codes.specs.Codes.{and_then, binders, definition, definitions, meaning}
use Rattle.scopes.specs.Steps.{count_from}
use Rattle.scopes.specs.declared.scope.ScopeName.{ScopeName}
use Rattle.resolver.specs.Resolved.{AreEarlier, IsTop, defs_in}
use Rattle.resolver.specs.declared.resolving.Codes.{Codes}
use Rattle.module_texts.specs.Texts.{Text}
use Rattle.linking.specs.Linked.{IsLinked}
use Rattle.session.specs.Places.{called, names, places}
use Rattle.session.specs.Scopes.{IsNumberedAt, IsScopeBehind, numbered_names}
use Rattle.session.proofs.PlaceLaws.{count_of_places}

-- one name more

pub numbered_more : (xs : List (List ℕ)) (cs : List CodeDef) (k : ℕ) (n : ScopeName) (c : CodeDef) → slice_get xs k ≡ Some n.name → slice_get cs k ≡ Some c → n.def ≡ (out-CodeDef c).number
    → numbered_names (take (k + 1) xs) (take (k + 1) cs) ≡ numbered_names (take k xs) (take k cs) ++ n ∷ []
numbered_more [] cs k n c at there number = absurd (cc at)
numbered_more (x ∷ xs) [] k n c at there number = absurd (cc there)
numbered_more (x ∷ xs) (d ∷ cs) zero n c at there number =
    let name : x ≡ n.name = cc in
    let code : d ≡ c = cc in
    let make : List ℕ → ℕ → List ScopeName = λ a b. record { name = a; def = b } ∷ [] in
    ap (λ a. make a (out-CodeDef d).number) name ∙ ap (λ e. make n.name (out-CodeDef e).number) code ∙ ap (make n.name) (sym number)
numbered_more (x ∷ xs) (d ∷ cs) (suc k) n c at there number =
    let on : suc (k + 1) ≡ suc k + 1 = omega arith in
    let rest = numbered_more xs cs k n c at there number in
    ap (λ j. numbered_names (take j (x ∷ xs)) (take j (d ∷ cs))) (sym on)
    ∙ ap (λ ns. record { name = x; def = (out-CodeDef d).number } ∷ ns) rest

-- definitions stand in no context

define_top : (n : ℕ) (m : Means ℕ _) (H : Scope ℕ) → context_of (define n m H).value ≡ context_of H
define_top n m H = refl

top_after : (ds : List CodeDef) (H : Scope ℕ) → context_of (definitions ds H).value ≡ context_of H
top_after [] H = refl
top_after (CodeDef' x n shape bs t c ∷ ds) H = top_after ds (definition (CodeDef' x n shape bs t c) H).value

pub are_top : (ds : List CodeDef) → IsTop (definitions ds []).value
are_top ds = top_after ds []

-- their numbers are among those of what they state

abbrev Below : ℕ → List (Stated ℕ) → Type 0
Below n [] = Unit {0}
Below n (d ∷ ds) = (d.name < n) × Below n ds

below_front : (n : ℕ) (xs ys : List (Stated ℕ)) → Below n (xs ++ ys) → Below n xs
below_front n [] ys all = tt
below_front n (x ∷ xs) ys all = (all.0, below_front n xs ys all.1)

below_back : (n : ℕ) (xs ys : List (Stated ℕ)) → Below n (xs ++ ys) → Below n ys
below_back n [] ys all = all
below_back n (x ∷ xs) ys all = below_back n xs ys all.1

counted_below : (n : ℕ) (ds : List (Stated ℕ)) (k : ℕ) → map (λ (d : Stated ℕ). d.name) ds ≡ count_from (length ds) k → k + length ds ≤ n → Below n ds
counted_below n [] k e l = tt
counted_below n (d ∷ ds) k e l =
    let first : d.name ≡ k = cc in
    let rest : map (λ (s : Stated ℕ). s.name) ds ≡ count_from (length ds) (suc k) = cc in
    (omega (arith, first, l), counted_below n ds (suc k) rest (omega (arith, l)))

abbrev AllBelow : ℕ → List ScopeName → Type 0
AllBelow n [] = Unit {0}
AllBelow n (x ∷ xs) = (x.def < n) × AllBelow n xs

names_below : (n : ℕ) (xs : List (List ℕ)) (ds : List CodeDef) (H : Scope ℕ) → Below n (definitions ds H).stated → AllBelow n (numbered_names xs ds)
unfolding out-CodeDef denote.Hole.Carrier.out
names_below n [] ds H all = tt
names_below n (x ∷ xs) [] H all = tt
names_below n (x ∷ xs) (CodeDef' y m shape bs t c ∷ ds) H all =
    let d = CodeDef' y m shape bs t c in
    let here = below_front n (definition d H).stated (definitions ds (definition d H).value).stated all in
    let inner = (defined (binders bs) (meaning t) done (meaning c) H).stated in (
      (below_back n inner _ here).0,
      names_below n xs ds (definition d H).value (below_back n (definition d H).stated (definitions ds (definition d H).value).stated all),
    )

all_below : (n : ℕ) (xs : List ScopeName) → AllBelow n xs → AreEarlier n xs
all_below n [] all k d l = absurd (omega arith)
all_below n (x ∷ xs) all zero d l = all.0
all_below n (x ∷ xs) all (suc k) d l = all_below n xs all.1 k d (omega arith)

pub are_earlier : (texts : List Text) (codes : Codes) → IsLinked texts codes → AreEarlier codes.next (numbered_names (names texts) (defs_in codes))
are_earlier texts codes linked =
    let all = counted_below codes.next _ 0 linked.numbered (let e = linked.next_is in omega arith) in
    all_below codes.next _ (names_below codes.next (names texts) (defs_in codes) [] all)

-- the scope when all names are kept
pub all_named : (texts : List Text) (codes : Codes) → IsLinked texts codes → (k : ℕ) → k ≡ length (defs_in codes) → numbered_names (take k (names texts)) (take k (defs_in codes)) ≡ numbered_names (names texts) (defs_in codes)
all_named texts codes linked k end =
    let long : length (names texts) ≡ k = length-map (places texts) called ∙ sym (count_of_places texts codes linked) ∙ sym end in
    let here : length (defs_in codes) ≤ k = omega (arith, end) in
    let there : length (names texts) ≤ k = omega (arith, long) in
    ap (λ xs. numbered_names xs (take k (defs_in codes))) (take_all k (names texts) there)
    ∙ ap (numbered_names (names texts)) (take_all k (defs_in codes) here)
