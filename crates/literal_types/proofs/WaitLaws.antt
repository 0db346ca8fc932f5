-- Trees under substitutions that wait.
use Rattle.std.proofs.Common.{◌≡◌, ◌+◌, ◌-◌, ◌<◌, ◌≤◌, ℕ, zero, suc, List, [], ◌∷◌, ◌++◌, length, reverse, refl, sym, ◌∙◌, ap, subst, arith, true, false, Some}
use Rattle.std.proofs.lemmas.List.{reverse-append}
use Rattle.trees.specs.Trees.{Tree, Subst, Var, Make, apply, push}
use Rattle.trees.specs.Judgements.{Context, Nil, WithVar, WithName, WithFace, trees}
use Rattle.trees.specs.Language.{Sb, Tm, Ty}
use Rattle.trees.specs.Things.{ATree}
use Rattle.substitution.proofs.ThenLaws.{apply-then, apply-id}
use Rattle.substitution.proofs.BinderLaws.{apply-weaken}
use Rattle.rules.specs.Table.{pathp, pi, sig, weakened}
use Rattle.substitution_laws.specs.Spans.{size_of}
use Rattle.book.specs.Contents.{Contents}
use Rattle.book.specs.declared.kernel.NodeId.{NodeId}
use Rattle.typed_nodes.specs.declared.types.TypeAt.{TypeAt}
use Rattle.typed_nodes.specs.Typed.{Says, IsTypeAt}
use Rattle.literal_types.specs.declared.entries.Entry.{Entry}
use Rattle.literal_types.specs.declared.entries.Entry.TheVariants as entry
use Rattle.literal_types.specs.declared.substitutions.Substitution.TheVariants as sub
use Rattle.literal_types.specs.declared.waiting.Waiting.{Waiting}
use Rattle.literal_types.specs.declared.waiting.Waiting.TheVariants as waiting
use Rattle.literal_types.specs.Literal.{IsNoForm}
use Rattle.literal_types.specs.Ways.{HasVariable, has_other}
use Rattle.literal_types.specs.Openings.{Types}
use Rattle.literal_types.specs.Substitutions.{IsEntry, IsFrom, past_entry, Unfolds}
use Rattle.literal_types.specs.Waits.{IsEntered, Stands, StandsTyped, Waits, waiting_weight}

-- lists that are pushed on and popped

pub pushed_one : {A : Type 0} (items rest : List A) (x : A) → items ≡ rest ++ x ∷ [] → reverse items ≡ x ∷ reverse rest
pushed_one items rest x e = ap reverse e ∙ reverse-append rest (x ∷ [])

pub pushed_two : {A : Type 0} (items more rest : List A) (x y : A) → more ≡ rest ++ x ∷ [] → items ≡ more ++ y ∷ [] → reverse items ≡ y ∷ x ∷ reverse rest
pushed_two items more rest x y e f = pushed_one items more y f ∙ ap (λ xs. y ∷ xs) (pushed_one more rest x e)

pub popped_one : {A : Type 0} (items rest : List A) (x y : A) → items ≡ rest ++ x ∷ [] → x ≡ y → reverse items ≡ y ∷ reverse rest
popped_one items rest x y e is = pushed_one items rest x e ∙ ap (λ z. z ∷ reverse rest) is

pub none_left : {A : Type 0} (items : List A) (len : ℕ) → len ≡ length items → len ≡ 0 → reverse items ≡ []
none_left [] len is none = refl
none_left (x ∷ items) len is none = absurd (omega arith)

-- trees that are no form

pub other_is_no_form : (T : Tree) → has_other T ≡ true → IsNoForm T
other_is_no_form T other = record {
  no_pi = λ A B e. no (pi trees A B) e refl;
  no_sigma = λ A B e. no (sig trees A B) e refl;
  no_path = λ A u v e. no (pathp trees A u v) e refl;
}
  where
    no : (S : Tree) → T ≡ S → has_other S ≡ false → ⊥
    no S e none = cc

pub variable_is_no_form : (T : Tree) (k : ℕ) → T ≡ Var k → IsNoForm T
variable_is_no_form T k is = record {
  no_pi = λ A B e. absurd (cc (sym is ∙ e));
  no_sigma = λ A B e. absurd (cc (sym is ∙ e));
  no_path = λ A u v e. absurd (cc (sym is ∙ e));
}

other_under : (A : Tree) (d : Subst) → has_other A ≡ true → has_other (apply A d) ≡ true
other_under (Var k) d h = absurd (cc h)
other_under (Make op kids) d h = h

other_past : (e : Entry) (A : Tree) → has_other A ≡ true → has_other (past_entry e A) ≡ true
other_past (entry.Variable ty) A h = other_under A _ h
other_past entry.Name A h = other_under A _ h
other_past (entry.Face row) A h = h

pub other_waits : (b : Contents) (ws : List Waiting) (H : Context) (T : Tree) (K : Context) (A : Tree) → has_other A ≡ true → Waits b ws H T K A → IsNoForm T
other_waits b [] H T K A h w = other_is_no_form T (subst (λ t. has_other t ≡ true) (sym w.1) h)
other_waits b (waiting.Sub node ∷ ws) H T K A h w = let (M, d, says, rest) = w in other_waits b ws H T M (apply A d) (other_under A d h) rest
other_waits b (waiting.Past below e ∷ ws) H T K A h w = let (M, is, from, rest) = w in other_waits b ws H T M (past_entry e A) (other_past e A h) rest

-- what a node says is one thing

pub same_sub : (b : Contents) (node : NodeId) (M N : Context) (d e : Subst) (K : Context) → Says b node (Sb M d K) → Says b node (Sb N e K) → (M ≡ N) × (d ≡ e)
same_sub b node M N d e K said again =
    let one : Some (Sb M d K) ≡ Some (Sb N e K) = sym said ∙ again in
    (cc, cc)

same_entry : (b : Contents) (x : Entry) (K M N : Context) → IsEntry b x K M → IsEntry b x K N → M ≡ N
same_entry b (entry.Variable ty) K M N is also =
    let one : Some (Ty K is.0) ≡ Some (Ty K also.0) = sym is.1 ∙ also.1 in
    let same : is.0 ≡ also.0 = cc in
    is.2 ∙ ap (WithVar K) same ∙ sym also.2
same_entry b entry.Name K M N is also = is ∙ sym also
same_entry b (entry.Face row) K M N is also =
    let one : Some (ATree is.0) ≡ Some (ATree also.0) = sym is.1 ∙ also.1 in
    let same : is.0 ≡ also.0 = cc in
    is.3 ∙ ap (WithFace K) same ∙ sym also.3

-- what waits for one tree waits for all
pub waits_all : (b : Contents) (ws : List Waiting) (H : Context) (T : Tree) (K : Context) (A : Tree) → Waits b ws H T K A → (B : Tree) → (S : Tree) × Waits b ws H S K B
waits_all b [] H T K A w B = (B, (w.0, refl))
waits_all b (waiting.Sub node ∷ ws) H T K A w B =
    let (M, d, says, rest) = w in
    let (S, more) = waits_all b ws H T M (apply A d) rest (apply B d) in
    (S, (M, d, says, more))
waits_all b (waiting.Past below x ∷ ws) H T K A w B =
    let (M, is, from, rest) = w in
    let (S, more) = waits_all b ws H T M (past_entry x A) rest (past_entry x B) in
    (S, (M, is, from, more))

-- and makes one tree of it
pub waits_same : (b : Contents) (ws : List Waiting) (H : Context) (T S : Tree) (K : Context) (A : Tree) → Waits b ws H T K A → Waits b ws H S K A → T ≡ S
waits_same b [] H T S K A w v = w.1 ∙ sym v.1
waits_same b (waiting.Sub node ∷ ws) H T S K A w v =
    let (M, d, says, rest) = w in
    let (N, e, also, more) = v in
    let same = same_sub b node N M e d K also says in
    waits_same b ws H T S M (apply A d) rest (subst (λ L. Waits b ws H S L (apply A d)) same.0 (subst (λ f. Waits b ws H S N (apply A f)) same.1 more))
waits_same b (waiting.Past below x ∷ ws) H T S K A w v =
    let (M, is, from, rest) = w in
    let (N, also, too, more) = v in
    waits_same b ws H T S M (past_entry x A) rest (subst (λ L. Waits b ws H S L (past_entry x A)) (same_entry b x K N M also is) more)

-- what the innermost index becomes

-- the type of an innermost variable, and of one further out
nearest : (G : Context) (A B : Tree) (K : Context) (i : ℕ) → K ≡ WithVar G A → i ≡ 0 → HasVariable K i B → B ≡ weakened trees A
nearest G A B K i k none has = subst (λ n. HasVariable (WithVar G A) n B) none (subst (λ L. HasVariable L i B) k has)

further : (G : Context) (A B : Tree) (K : Context) (i : ℕ) → K ≡ WithVar G A → i ≡ suc (i - 1) → HasVariable K i B → (C : Tree) × HasVariable G (i - 1) C × (B ≡ weakened trees C)
further G A B K i k more has = subst (λ n. HasVariable (WithVar G A) n B) more (subst (λ L. HasVariable L i B) k has)

past_name : (G : Context) (B : Tree) (K : Context) (i : ℕ) → K ≡ WithName G → HasVariable K i B → (i ≡ suc (i - 1)) × (C : Tree) × HasVariable G (i - 1) C × (B ≡ weakened trees C)
past_name G B K i k has = from i (subst (λ L. HasVariable L i B) k has)
  where
    from : (n : ℕ) → HasVariable (WithName G) n B → (n ≡ suc (n - 1)) × (C : Tree) × HasVariable G (n - 1) C × (B ≡ weakened trees C)
    from zero h = absurd h
    from (suc n) h =
        let less : suc n - 1 ≡ n = omega arith in
        (omega arith, h.0, subst (λ k. HasVariable G k h.0) (sym less) h.1, h.2)

module _ {b : Contents} {s : NodeId} {i : ℕ} {ws : List Waiting} {H : Context} {T S : Tree} (at : IsEntered b i (waiting.Sub s ∷ ws) H T S) where
  abbrev From : Context
  From = at.waits.0

  abbrev By : Subst
  By = at.waits.1

  moved : (A : Tree) → apply (Var i) By ≡ A → Waits b ws H T From A
  moved A e = subst (Waits b ws H T From) e at.waits.3

  moved_type : (A : Tree) → apply at.type By ≡ A → Waits b ws H S From A
  moved_type A e =
      let (N, f, says, rest) = at.type_waits in
      let same = same_sub b s N From f By at.home says at.waits.2 in
      subst (Waits b ws H S From) e (subst (λ L. Waits b ws H S L (apply at.type By)) same.0 (subst (λ g. Waits b ws H S N (apply at.type g)) same.1 rest))

  pub enters_identity : (ctx : NodeId) → Unfolds b (sub.Identity ctx) From By at.home → IsEntered b i ws H T S
  enters_identity ctx u = record {
    home = From;
    type = at.type;
    variable = subst (λ K. HasVariable K i at.type) (sym u.0) at.variable;
    waits = moved (Var i) (ap (apply (Var i)) u.1 ∙ apply-id (Var i));
    type_waits = moved_type at.type (ap (apply at.type) u.1 ∙ apply-id at.type);
  }

  pub enters_composite : (first second : NodeId) → Unfolds b (sub.Composite first second) From By at.home → IsEntered b i (waiting.Sub second ∷ waiting.Sub first ∷ ws) H T S
  enters_composite first second u =
      let (L, e, f, inner, outer, is) = u in
      record {
        home = at.home;
        type = at.type;
        variable = at.variable;
        waits = (L, f, outer, (From, e, inner, moved (apply (apply (Var i) f) e) (ap (apply (Var i)) is ∙ apply-then (Var i) f e)));
        type_waits = (L, f, outer, (From, e, inner, moved_type (apply (apply at.type f) e) (ap (apply at.type) is ∙ apply-then at.type f e)));
      }

  pub enters_past : (below : NodeId) (x : Entry) → Unfolds b (sub.Past below x) From By at.home → IsEntered b i (waiting.Sub below ∷ waiting.Past below x ∷ ws) H T S
  enters_past below x u =
      let (L, e, says, is, under) = u in
      let from : IsFrom b below L = record { sub = e; target = at.home; says = says } in
      record {
        home = at.home;
        type = at.type;
        variable = at.variable;
        waits = (L, e, says, (From, is, from, moved (past_entry x (apply (Var i) e)) (under (Var i))));
        type_waits = (L, e, says, (From, is, from, moved_type (past_entry x (apply at.type e)) (under at.type)));
      }

  pub enters_term : (below term : NodeId) → i ≡ 0 → Unfolds b (sub.Pushed below term) From By at.home → StandsTyped b term ws H T S
  enters_term below term zero_is u =
      let (G, e, A, a, says, typed, is, home) = u in
      let type_is : at.type ≡ weakened trees A = nearest G A at.type at.home i home zero_is at.variable in
      record {
        home = From;
        tree = a;
        type = apply A e;
        says = typed;
        waits = moved a (ap (apply (Var i)) is ∙ ap (λ k. apply (Var k) (push e a)) zero_is);
        type_waits = moved_type (apply A e) (ap (apply at.type) is ∙ ap (λ t. apply t (push e a)) type_is ∙ apply-weaken A a e);
      }

  pub enters_pushed : (below term : NodeId) → (i ≡ 0 → ⊥) → Unfolds b (sub.Pushed below term) From By at.home → IsEntered b (i - 1) (waiting.Sub below ∷ ws) H T S
  enters_pushed below term some u =
      let (G, e, A, a, says, typed, is, home) = u in
      let more : i ≡ suc (i - 1) = omega (arith, some) in
      let (C, has, type_is) = further G A at.type at.home i home more at.variable in
      record {
        home = G;
        type = C;
        variable = has;
        waits = (From, e, says, moved (apply (Var (i - 1)) e) (ap (apply (Var i)) is ∙ ap (λ k. apply (Var k) (push e a)) more));
        type_waits = (From, e, says, moved_type (apply C e) (ap (apply at.type) is ∙ ap (λ t. apply t (push e a)) type_is ∙ apply-weaken C a e));
      }

  pub enters_formula : (below : NodeId) → Unfolds b (sub.Formula below) From By at.home → IsEntered b (i - 1) (waiting.Sub below ∷ ws) H T S
  enters_formula below u =
      let (G, e, r, says, is, home) = u in
      let (more, C, has, type_is) = past_name G at.type at.home i home at.variable in
      record {
        home = G;
        type = C;
        variable = has;
        waits = (From, e, says, moved (apply (Var (i - 1)) e) (ap (apply (Var i)) is ∙ ap (λ k. apply (Var k) (push e r)) more));
        type_waits = (From, e, says, moved_type (apply C e) (ap (apply at.type) is ∙ ap (λ t. apply t (push e r)) type_is ∙ apply-weaken C r e));
      }

  pub enters_on_face : (below : NodeId) → Unfolds b (sub.OnFace below) From By at.home → IsEntered b i (waiting.Sub below ∷ ws) H T S
  enters_on_face below u =
      let (G, p, says, home) = u in
      record {
        home = G;
        type = at.type;
        variable = subst (λ K. HasVariable K i at.type) home at.variable;
        waits = (From, By, says, at.waits.3);
        type_waits = (From, By, says, moved_type (apply at.type By) refl);
      }

-- the index of a name is no variable
pub named_index : (G : Context) (i : ℕ) (K : Context) (B : Tree) → K ≡ WithName G → HasVariable K i B → 1 ≤ i
named_index G i K B e v = let more = (past_name G B K i e v).0 in omega (arith, more)

-- an index past an entry

weakened_index : (i j : ℕ) → Var j ≡ Var (i + 1) → j ≡ suc i
weakened_index i j e = let same : j ≡ i + 1 = cc in omega (arith, same)

variable_past : (b : Contents) (x : Entry) (K M : Context) (i j : ℕ) (B : Tree) → IsEntry b x K M → Var j ≡ past_entry x (Var i) → HasVariable K i B → HasVariable M j (past_entry x B)
variable_past b (entry.Variable ty) K M i j B is e v =
    let (A, says, m) = is in
    subst (λ L. HasVariable L j (weakened trees B)) (sym m) (subst (λ k. HasVariable (WithVar K A) k (weakened trees B)) (sym (weakened_index i j e)) (B, v, refl))
variable_past b entry.Name K M i j B is e v =
    subst (λ L. HasVariable L j (weakened trees B)) (sym is) (subst (λ k. HasVariable (WithName K) k (weakened trees B)) (sym (weakened_index i j e)) (B, v, refl))
variable_past b (entry.Face row) K M i j B is e v =
    let (p, means, face, m) = is in
    let same : j ≡ i = cc in
    subst (λ L. HasVariable L j B) (sym m) (subst (λ k. HasVariable (WithFace K p) k B) (sym same) v)

pub past_waits : {b : Contents} {below : NodeId} {x : Entry} {i : ℕ} {ws : List Waiting} {H : Context} {T S : Tree} (j : ℕ) → Var j ≡ past_entry x (Var i) → IsEntered b i (waiting.Past below x ∷ ws) H T S → IsEntered b j ws H T S
past_waits {b} {below} {x} {i} {ws} {H} {T} {S} j e at =
    let (M, is, from, rest) = at.waits in
    let (N, also, too, more) = at.type_waits in
    record {
      home = M;
      type = past_entry x at.type;
      variable = variable_past b x at.home M i j at.type is e at.variable;
      waits = subst (Waits b ws H T M) (sym e) rest;
      type_waits = subst (λ L. Waits b ws H S L (past_entry x at.type)) (same_entry b x at.home N M also is) more;
    }

-- an index is within its context
pub variable_within : (K : Context) (i : ℕ) (B : Tree) → HasVariable K i B → i < size_of K
variable_within Nil i B v = absurd v
variable_within (WithVar G A) zero B v = omega arith
variable_within (WithVar G A) (suc i) B v = let w = variable_within G i v.0 v.1 in omega (arith, w)
variable_within (WithName G) zero B v = absurd v
variable_within (WithName G) (suc i) B v = let w = variable_within G i v.0 v.1 in omega (arith, w)
variable_within (WithFace G p) i B v = variable_within G i B v

-- nothing waits any more
pub none_waits : {b : Contents} {i : ℕ} {H : Context} {T S : Tree} → IsEntered b i [] H T S → (k : ℕ) × (T ≡ Var k)
none_waits {i = i} at = (i, at.waits.1)

-- the variable that is looked up, where so many are left of what waited at the beginning
pub record Looking (b : Contents) (begin : List Waiting) (i : ℕ) (ws : List Waiting) : Type 0 where
  pub stands : (H : Context) (T S : Tree) → IsEntered b 0 begin H T S → IsEntered b i ws H T S
  pub less : waiting_weight ws ≤ waiting_weight begin

-- the node whose rule is followed, where so many are left of what waited at the beginning
pub record Finding (b : Contents) (ty : NodeId) (begin : List Waiting) (node : NodeId) (ws : List Waiting) : Type 0 where
  pub stands : (H : Context) (T : Tree) → Stands b ty begin H T → Stands b node ws H T

-- whatever its type
pub untyped : {b : Contents} {node : NodeId} {ws : List Waiting} {H : Context} {T S : Tree} → StandsTyped b node ws H T S → Stands b node ws H T
untyped s = record {
  home = s.home;
  tree = s.tree;
  types = record { judgement = Tm s.home s.tree s.type; says = s.says; is_of = (refl, refl) };
  waits = s.waits;
}

-- what the rule of a node says of what stands

module _ {b : Contents} {node : NodeId} {ws : List Waiting} {H : Context} {T : Tree} (s : Stands b node ws H T) where
  pub stands_same : (next : NodeId) → Types b next s.home s.tree → Stands b next ws H T
  stands_same next types = record { home = s.home; tree = s.tree; types = types; waits = s.waits }

  pub stands_instance : (sub next : NodeId) → (d : Subst) × (G : Context) × (B : Tree) × Says b sub (Sb s.home d G) × Types b next G B × (s.tree ≡ apply B d) → Stands b next (waiting.Sub sub ∷ ws) H T
  stands_instance sub next o =
      let (d, G, B, says, types, is) = o in
      record { home = G; tree = B; types = types; waits = (s.home, d, says, subst (Waits b ws H T s.home) is s.waits) }

  pub stands_variable : (B : Tree) × (s.tree ≡ Var 0) × HasVariable s.home 0 B → (S : Tree) × IsEntered b 0 ws H T S
  stands_variable o =
      let (B, is, has) = o in
      let (S, of_type) = waits_all b ws H T s.home s.tree s.waits B in
      (S, record { home = s.home; type = B; variable = has; waits = subst (Waits b ws H T s.home) is s.waits; type_waits = of_type })

  pub stands_other : has_other s.tree ≡ true → IsNoForm T
  stands_other o = other_waits b ws H T s.home s.tree o s.waits

-- a type at home, under the substitution from here
pub begins : (b : Contents) (at : TypeAt) (items rest : List Waiting) (H : Context) (T : Tree) → items ≡ rest ++ waiting.Sub at.sub ∷ [] → rest ≡ [] → IsTypeAt b at H T → Stands b at.ty (reverse items) H T
begins b at items rest H T e none is =
    let order : reverse items ≡ waiting.Sub at.sub ∷ [] = pushed_one items rest (waiting.Sub at.sub) e ∙ ap (λ xs. waiting.Sub at.sub ∷ reverse xs) none in
    subst (λ ws. Stands b at.ty ws H T) (sym order) (record {
      home = is.home;
      tree = is.tree;
      types = record { judgement = Ty is.home is.tree; says = is.type_is; is_of = (refl, refl) };
      waits = (H, is.sub, is.sub_is, (refl, is.is));
    })
