-- Systems and their sides.
use Rattle.std.proofs.Common.{◌≡◌, ℕ, suc, ◌+◌, ◌<◌, ◌≤◌, Bool, true, false, List, [], ◌∷◌, ◌++◌, length, reverse, refl, sym, ◌∙◌, ap, ap₂, subst, arith, append_assoc, append-nil}
use Rattle.std.specs.Prelude.{codes}
use Rattle.std.proofs.lemmas.List.{reverse-append}
use Rattle.trees.specs.declared.op.Op.{Op}
use Rattle.trees.specs.declared.op.Op.TheVariants as op
use Rattle.trees.specs.Operators.{kids_of, binds_of}
use Rattle.trees.specs.Trees.{Tree, Var, Make, NoTrees, More, trees_of}
use Rattle.trees.specs.Things.{Meanings}
use Rattle.closures.specs.declared.closure.Closure.{Closure}
use Rattle.closures.specs.Environments.{Waiting, listed}
use Rattle.closures.specs.Closures.{IsClosure, Stands}
use Rattle.closures.proofs.HeadLaws.{closure-deeper, closure-grows, closure_meaning-grows}
use Rattle.rows.specs.Tables.{Grows}
use Rattle.side_conditions.specs.Shapes.{tree_of}
use Rattle.tree_texts.specs.declared.words.Sort.TheVariants as sort
use Rattle.tree_texts.specs.declared.words.Style.{Style}
use Rattle.tree_texts.specs.declared.words.Style.TheVariants as style
use Rattle.tree_texts.specs.declared.words.Phrase.TheVariants as phrase
use Rattle.tree_texts.specs.declared.tasks.Task.{Task}
use Rattle.tree_texts.specs.declared.tasks.Task.TheVariants as task
use Rattle.tree_frames.specs.declared.frames.Frame.{Frame}
use Rattle.tree_texts.specs.declared.tasks.Sides.{Sides}
use Rattle.tree_texts.specs.Show.{Text, shown, conjunction, faces, terms, pairs, sides, system, further, line}
use Rattle.tree_texts.specs.Layouts.{begun, sides_of, arrow, begin_of, end_of}
use Rattle.tree_frames.specs.Frames.{tree_in, frame_trees, weight, all_weights, FrameStands, IsKidAt}
use Rattle.tree_texts.specs.Tasks.{task_text, texts, steps_of, all_steps, SidesStand, TaskStands, TasksStand, Opens, LeavesParts, IsSide, HasNoSide, sides_in, sides_weight, second_weight, sides_task}
use Rattle.tree_frames.specs.Frames.{IsFrame}
use Rattle.tree_frames.proofs.FrameLaws.{length-kid_trees}

-- kids, counted

record Three (ts : List Tree) : Type 0 where
  pub a : Tree
  pub b : Tree
  pub c : Tree
  pub whole : ts ≡ a ∷ b ∷ c ∷ []

record Four (ts : List Tree) : Type 0 where
  pub a : Tree
  pub b : Tree
  pub c : Tree
  pub d : Tree
  pub whole : ts ≡ a ∷ b ∷ c ∷ d ∷ []

three : (ts : List Tree) → length ts ≡ 3 → Three ts
three (a ∷ b ∷ c ∷ []) e = record { a = a; b = b; c = c; whole = refl }
three _ e = absurd (omega arith)

four : (ts : List Tree) → length ts ≡ 4 → Four ts
four (a ∷ b ∷ c ∷ d ∷ []) e = record { a = a; b = b; c = c; d = d; whole = refl }
four _ e = absurd (omega arith)

frame-count : (f : Meanings) (known : List (List Waiting)) (r : Frame) (o : Op) → length r.kids.now ≡ kids_of r.op → r.op ≡ o → length (frame_trees f known r) ≡ kids_of o
frame-count f known r o count e = length-kid_trees f (listed known r.environment) r.op 0 r.kids.now ∙ count ∙ ap kids_of e

-- the first side

pub is-side : (f : Meanings) (old new : List (List Waiting)) (body face term rest : Closure) (r : Frame) → r.op ≡ op.Sys → IsFrame f new (tree_in f old body) r
    → ((n : ℕ) → IsClosure f old n body → Stands f new n r.environment)
    → IsKidAt f new r 0 face → IsKidAt f new r 2 term → IsKidAt f new r 3 rest → IsSide f old new body face term rest
is-side f old new body face term rest r e is env k0 k2 k3 =
    let q = four (frame_trees f new r) (frame-count f new r op.Sys is.count e) in
    let first : tree_in f new face ≡ q.a = k0.tree [] (q.b ∷ q.c ∷ q.d ∷ []) q.a refl q.whole in
    let third : tree_in f new term ≡ q.c = k2.tree (q.a ∷ q.b ∷ []) (q.d ∷ []) q.c refl q.whole in
    let fourth : tree_in f new rest ≡ q.d = k3.tree (q.a ∷ q.b ∷ q.c ∷ []) [] q.d refl q.whole in
    let same : frame_trees f new r ≡ tree_in f new face ∷ q.b ∷ tree_in f new term ∷ tree_in f new rest ∷ [] = cc (q.whole, first, third, fourth) in
    record {
      cover = q.b;
      whole = is.whole ∙ ap₂ (λ o ts. Make o (trees_of ts)) e same;
      stands = λ n s. (k0.same n (env n s) (ap (λ o. binds_of o 0) e), k2.same n (env n s) (ap (λ o. binds_of o 2) e), k3.same n (env n s) (ap (λ o. binds_of o 3) e));
    }

-- terms with a system

comp-text : (n up : ℕ) (A p b a : Tree) → up ≡ suc n → begun op.Comp n (shown up A ++ (codes ") " ++ (shown n a ++ (codes " " ++ (system (sides_of style.Lines n b b) ++ (codes ")" ++ [])))))) ≡ shown n (Make op.Comp (More A (More p (More b (More a NoTrees)))))
comp-text n up A p b a e = rw e (simp append_assoc)

glue_type-text : (n : ℕ) (A p T w : Tree) → begun op.GlueType n (shown n A ++ (codes " " ++ (system (sides_of style.Pairs n T w) ++ (codes ")" ++ [])))) ≡ shown n (Make op.GlueType (More A (More p (More T (More w NoTrees)))))
glue_type-text n A p T w = simp append_assoc

glue-text : (n : ℕ) (p c a : Tree) → begun op.Glue n (shown n a ++ (codes " " ++ (system (sides_of style.Terms n c c) ++ (codes ")" ++ [])))) ≡ shown n (Make op.Glue (More p (More c (More a NoTrees))))
glue-text n p c a = simp append_assoc

unglue-text : (n : ℕ) (p T w b : Tree) → begun op.Unglue n (shown n b ++ (codes " " ++ (system (sides_of style.Pairs n T w) ++ (codes ")" ++ [])))) ≡ shown n (Make op.Unglue (More p (More T (More w (More b NoTrees)))))
unglue-text n p T w b = simp append_assoc

abbrev IsText : Frame → Text → Op → List Tree → Type 0
IsText r x o ts = begun o r.level x ≡ shown r.level (Make o (trees_of ts))

is-text : (r : Frame) (x : Text) (o : Op) (ts us : List Tree) → r.op ≡ o → ts ≡ us → IsText r x o us → IsText r x r.op ts
is-text r x o ts us e same h = subst (λ p. IsText r x p ts) (sym e) (subst (IsText r x o) (sym same) h)

deeper : (f : Meanings) (known : List (List Waiting)) (n k : ℕ) (c : Closure) → IsClosure f known (suc n) c → IsClosure f known (n + suc k) c
deeper f known n k c s = closure-deeper f known (suc n) (n + suc k) c (omega arith) s

pub parts-comp : (f : Meanings) (known : List (List Waiting)) (m : ℕ) (r : Frame) (line body base : Closure) (up : ℕ) (old new : List Task) → FrameStands f known m r → r.op ≡ op.Comp → up ≡ r.level + 1
    → IsKidAt f known r 0 line → IsKidAt f known r 2 body → IsKidAt f known r 3 base
    → new ≡ old ++ (task.Say phrase.Close ∷ task.System (record { style = style.Lines; level = r.level; body = body; second = body }) ∷ task.Say phrase.Space ∷ task.Write sort.Term r.level base ∷ task.Say phrase.EndLine ∷ task.Write sort.Term up line ∷ [])
    → LeavesParts f known r old new
parts-comp f known m r line body base up old new stands e is_up k0 k2 k3 made =
    let q = four (frame_trees f known r) (frame-count f known r op.Comp stands.count e) in
    let first : tree_in f known line ≡ q.a = k0.tree [] (q.b ∷ q.c ∷ q.d ∷ []) q.a refl q.whole in
    let third : tree_in f known body ≡ q.c = k2.tree (q.a ∷ q.b ∷ []) (q.d ∷ []) q.c refl q.whole in
    let fourth : tree_in f known base ≡ q.d = k3.tree (q.a ∷ q.b ∷ q.c ∷ []) [] q.d refl q.whole in
    let same : frame_trees f known r ≡ tree_in f known line ∷ q.b ∷ tree_in f known body ∷ tree_in f known base ∷ [] = cc (q.whole, first, third, fourth) in
    let s : Sides = record { style = style.Lines; level = r.level; body = body; second = body } in
    record {
      more = task.Write sort.Term up line ∷ task.Say phrase.EndLine ∷ task.Write sort.Term r.level base ∷ task.Say phrase.Space ∷ task.System s ∷ task.Say phrase.Close ∷ [];
      tasks = ap reverse made ∙ reverse-append old _;
      text = is-text r _ op.Comp (frame_trees f known r) _ e same (comp-text r.level up (tree_in f known line) q.b (tree_in f known body) (tree_in f known base) (omega arith));
      stand = λ start n le env. (
        (omega arith, deeper f known n 4 line (k0.stands n env)),
        (
          tt,
          (
            (omega arith, deeper f known n 2 base (k3.stands n env)),
            (tt, ((omega arith, deeper f known n 0 body (k2.stands n env), deeper f known n 0 body (k2.stands n env)), (tt, tt))),
          ),
        ),
      );
      steps = rw same (omega arith);
    }

pub parts-system : (f : Meanings) (known : List (List Waiting)) (r : Frame) (s : Sides) (base : Closure) (o : Op) (ts : List Tree) (old new : List Task) → r.op ≡ o → s.level ≡ r.level → frame_trees f known r ≡ ts
    → begun o r.level (shown r.level (tree_in f known base) ++ (codes " " ++ (system (sides_of s.style r.level (tree_in f known s.body) (tree_in f known s.second)) ++ (codes ")" ++ [])))) ≡ shown r.level (Make o (trees_of ts))
    → ((n : ℕ) → Stands f known n r.environment → IsClosure f known (suc n) base × IsClosure f known (suc n) s.body × IsClosure f known (suc n) s.second)
    → weight (tree_in f known base) + (weight (tree_in f known s.body) + second_weight s.style (tree_in f known s.second)) + 3 ≤ all_weights ts
    → new ≡ old ++ (task.Say phrase.Close ∷ task.System s ∷ task.Say phrase.Space ∷ task.Write sort.Term r.level base ∷ [])
    → LeavesParts f known r old new
parts-system f known r s base o ts old new e at same text stands few made = record {
  more = task.Write sort.Term r.level base ∷ task.Say phrase.Space ∷ task.System s ∷ task.Say phrase.Close ∷ [];
  tasks = ap reverse made ∙ reverse-append old _;
  text = is-text r _ o (frame_trees f known r) ts e same
      (subst (λ l. begun o r.level (shown r.level (tree_in f known base) ++ (codes " " ++ (system (sides_of s.style l (tree_in f known s.body) (tree_in f known s.second)) ++ (codes ")" ++ [])))) ≡ shown r.level (Make o (trees_of ts))) (sym at) text);
  stand = λ start n le env.
      let k = stands n env in (
        (omega arith, deeper f known n 2 base k.0),
        (tt, ((omega arith, deeper f known n 0 s.body k.1, deeper f known n 0 s.second k.2), (tt, tt))),
      );
  steps = rw same (omega arith);
}

pub parts-glue_type : (f : Meanings) (known : List (List Waiting)) (m : ℕ) (r : Frame) (base body second : Closure) (old new : List Task) → FrameStands f known m r → r.op ≡ op.GlueType
    → IsKidAt f known r 0 base → IsKidAt f known r 2 body → IsKidAt f known r 3 second
    → new ≡ old ++ (task.Say phrase.Close ∷ task.System (record { style = style.Pairs; level = r.level; body = body; second = second }) ∷ task.Say phrase.Space ∷ task.Write sort.Term r.level base ∷ [])
    → LeavesParts f known r old new
parts-glue_type f known m r base body second old new stands e k0 k2 k3 made =
    let q = four (frame_trees f known r) (frame-count f known r op.GlueType stands.count e) in
    let first : tree_in f known base ≡ q.a = k0.tree [] (q.b ∷ q.c ∷ q.d ∷ []) q.a refl q.whole in
    let third : tree_in f known body ≡ q.c = k2.tree (q.a ∷ q.b ∷ []) (q.d ∷ []) q.c refl q.whole in
    let fourth : tree_in f known second ≡ q.d = k3.tree (q.a ∷ q.b ∷ q.c ∷ []) [] q.d refl q.whole in
    parts-system f known r (record { style = style.Pairs; level = r.level; body = body; second = second }) base op.GlueType (tree_in f known base ∷ q.b ∷ tree_in f known body ∷ tree_in f known second ∷ []) old new e refl
    (cc (q.whole, first, third, fourth)) (glue_type-text r.level (tree_in f known base) q.b (tree_in f known body) (tree_in f known second))
    (λ n env. (k0.stands n env, k2.stands n env, k3.stands n env)) (omega arith) made

pub parts-glue : (f : Meanings) (known : List (List Waiting)) (m : ℕ) (r : Frame) (base body : Closure) (old new : List Task) → FrameStands f known m r → r.op ≡ op.Glue
    → IsKidAt f known r 2 base → IsKidAt f known r 1 body
    → new ≡ old ++ (task.Say phrase.Close ∷ task.System (record { style = style.Terms; level = r.level; body = body; second = body }) ∷ task.Say phrase.Space ∷ task.Write sort.Term r.level base ∷ [])
    → LeavesParts f known r old new
parts-glue f known m r base body old new stands e k2 k1 made =
    let q = three (frame_trees f known r) (frame-count f known r op.Glue stands.count e) in
    let second : tree_in f known body ≡ q.b = k1.tree (q.a ∷ []) (q.c ∷ []) q.b refl q.whole in
    let third : tree_in f known base ≡ q.c = k2.tree (q.a ∷ q.b ∷ []) [] q.c refl q.whole in
    parts-system f known r (record { style = style.Terms; level = r.level; body = body; second = body }) base op.Glue (q.a ∷ tree_in f known body ∷ tree_in f known base ∷ []) old new e refl
    (cc (q.whole, second, third)) (glue-text r.level q.a (tree_in f known body) (tree_in f known base))
    (λ n env. (k2.stands n env, k1.stands n env, k1.stands n env)) (omega arith) made

pub parts-unglue : (f : Meanings) (known : List (List Waiting)) (m : ℕ) (r : Frame) (base body second : Closure) (old new : List Task) → FrameStands f known m r → r.op ≡ op.Unglue
    → IsKidAt f known r 3 base → IsKidAt f known r 1 body → IsKidAt f known r 2 second
    → new ≡ old ++ (task.Say phrase.Close ∷ task.System (record { style = style.Pairs; level = r.level; body = body; second = second }) ∷ task.Say phrase.Space ∷ task.Write sort.Term r.level base ∷ [])
    → LeavesParts f known r old new
parts-unglue f known m r base body second old new stands e k3 k1 k2 made =
    let q = four (frame_trees f known r) (frame-count f known r op.Unglue stands.count e) in
    let two : tree_in f known body ≡ q.b = k1.tree (q.a ∷ []) (q.c ∷ q.d ∷ []) q.b refl q.whole in
    let third : tree_in f known second ≡ q.c = k2.tree (q.a ∷ q.b ∷ []) (q.d ∷ []) q.c refl q.whole in
    let fourth : tree_in f known base ≡ q.d = k3.tree (q.a ∷ q.b ∷ q.c ∷ []) [] q.d refl q.whole in
    parts-system f known r (record { style = style.Pairs; level = r.level; body = body; second = second }) base op.Unglue (q.a ∷ tree_in f known body ∷ tree_in f known second ∷ tree_in f known base ∷ []) old new e refl
    (cc (q.whole, two, third, fourth)) (unglue-text r.level q.a (tree_in f known body) (tree_in f known second) (tree_in f known base))
    (λ n env. (k3.stands n env, k1.stands n env, k2.stands n env)) (omega arith) made

-- the sides of a system, one by one

abbrev pub sides_text : Bool → List Text → Text
sides_text true = system
sides_text false = further

no-faces : (n : ℕ) (t : Tree) → HasNoSide t → faces n t ≡ []
no-faces n (Var k) none = refl
no-faces n (Make op.Sys ts) none = absurd (none ts refl)
no-faces n (Make _ ts) none = refl

no-terms : (n : ℕ) (t : Tree) → HasNoSide t → terms n t ≡ []
no-terms n (Var k) none = refl
no-terms n (Make op.Sys ts) none = absurd (none ts refl)
no-terms n (Make _ ts) none = refl

no-pairs : (ts : List Text) → pairs ts [] ≡ []
no-pairs [] = refl
no-pairs (t ∷ ts) = refl

no-sides : (ps : List Text) → sides ps [] ≡ []
no-sides [] = refl
no-sides (p ∷ ps) = refl

pub no-first : (s : Style) (n : ℕ) (b w : Tree) → HasNoSide b → sides_of s n b w ≡ []
no-first style.Lines n b w none = rw (no-faces (suc n) b none) refl
no-first style.Terms n b w none = rw (no-faces n b none) refl
no-first style.Pairs n b w none = rw (no-faces n b none) refl

pub no-second : (n : ℕ) (b w : Tree) → HasNoSide w → sides_of style.Pairs n b w ≡ []
no-second n b w none = rw (no-terms n w none, no-pairs (terms n b)) (no-sides (faces n b))

end-text : (first : Bool) → sides_text first [] ≡ end_of first
end-text true = refl
end-text false = refl

abbrev side : Tree → Tree → Tree → Tree → Tree
side p q t rest = Make op.Sys (More p (More q (More t (More rest NoTrees))))

begin-side : (first : Bool) (side : Text) (more : List Text) → begin_of first ++ (side ++ further more) ≡ sides_text first (side ∷ more)
begin-side true side more = refl
begin-side false side more = refl

line-inner : (n : ℕ) (P T F : Text) → P ++ (arrow style.Lines n ++ (T ++ (F ++ []))) ≡ ((P ++ codes " -> ") ++ line n T) ++ F
line-inner n P T F = simp (append_assoc, append-nil)

term-inner : (n : ℕ) (P T F : Text) → P ++ (arrow style.Terms n ++ (T ++ (F ++ []))) ≡ ((P ++ codes " -> ") ++ T) ++ F
term-inner n P T F = simp (append_assoc, append-nil)

pair-inner : (n : ℕ) (P T U F : Text) → P ++ (arrow style.Pairs n ++ (T ++ (codes "," ++ (U ++ (codes ")" ++ (F ++ [])))))) ≡ ((P ++ codes " -> ") ++ ((((codes "(" ++ T) ++ codes ",") ++ U) ++ codes ")")) ++ F
pair-inner n P T U F = simp (append_assoc, append-nil)

line-text : (first : Bool) (n up : ℕ) (p q t rest w v : Tree) → up ≡ suc n → begin_of first ++ (conjunction up p ++ (arrow style.Lines n ++ (shown up t ++ (further (sides_of style.Lines n rest v) ++ [])))) ≡ sides_text first (sides_of style.Lines n (side p q t rest) w)
line-text first n up p q t rest w v e =
    let F = further (sides_of style.Lines n rest v) in
    ap (λ m. begin_of first ++ (conjunction m p ++ (arrow style.Lines n ++ (shown m t ++ (F ++ []))))) e
    ∙ ap (λ x. begin_of first ++ x) (line-inner n (conjunction (suc n) p) (shown (suc n) t) F)
    ∙ begin-side first ((conjunction (suc n) p ++ codes " -> ") ++ line n (shown (suc n) t)) (sides_of style.Lines n rest v)

term-text : (first : Bool) (n : ℕ) (p q t rest w v : Tree) → begin_of first ++ (conjunction n p ++ (arrow style.Terms n ++ (shown n t ++ (further (sides_of style.Terms n rest v) ++ [])))) ≡ sides_text first (sides_of style.Terms n (side p q t rest) w)
term-text first n p q t rest w v =
    ap (λ x. begin_of first ++ x) (term-inner n (conjunction n p) (shown n t) (further (sides_of style.Terms n rest v)))
    ∙ begin-side first ((conjunction n p ++ codes " -> ") ++ shown n t) (sides_of style.Terms n rest v)

pair-text : (first : Bool) (n : ℕ) (p q t rest x y u more : Tree) → begin_of first ++ (conjunction n p ++ (arrow style.Pairs n ++ (shown n t ++ (codes "," ++ (shown n u ++ (codes ")" ++ (further (sides_of style.Pairs n rest more) ++ []))))))) ≡ sides_text first (sides_of style.Pairs n (side p q t rest) (side x y u more))
pair-text first n p q t rest x y u more =
    ap (λ z. begin_of first ++ z) (pair-inner n (conjunction n p) (shown n t) (shown n u) (further (sides_of style.Pairs n rest more)))
    ∙ begin-side first ((conjunction n p ++ codes " -> ") ++ ((((codes "(" ++ shown n t) ++ codes ",") ++ shown n u) ++ codes ")")) (sides_of style.Pairs n rest more)

task-sides : (f : Meanings) (known : List (List Waiting)) (first : Bool) (s : Sides) → task_text f known (sides_task first s) ≡ sides_text first (sides_in f known s)
task-sides f known true s = refl
task-sides f known false s = refl

steps-sides : (f : Meanings) (known : List (List Waiting)) (first : Bool) (s : Sides) → steps_of f known (sides_task first s) ≡ sides_weight f known s
steps-sides f known true s = refl
steps-sides f known false s = refl

stands-sides : (f : Meanings) (known : List (List Waiting)) (start n : ℕ) (first : Bool) (s : Sides) → TaskStands f known start n (sides_task first s) → SidesStand f known start n s
stands-sides f known start n true s stands = stands
stands-sides f known start n false s stands = stands

pub sides-end : (f : Meanings) (old new : List (List Waiting)) (first : Bool) (s : Sides) (before after : Text) (tasks : List Task) → sides_in f old s ≡ [] → after ≡ before ++ end_of first → Opens f old new (sides_task first s) before after tasks tasks
sides-end f old new first s before after tasks none wrote = record {
  more = [];
  tasks = refl;
  text = append-nil after ∙ wrote ∙ ap (λ x. before ++ x) (sym (task-sides f old first s ∙ ap (sides_text first) none ∙ end-text first));
  stand = λ start n stands. tt;
  steps = let e = steps-sides f old first s in omega arith;
}

deep : (f : Meanings) (known : List (List Waiting)) (n k : ℕ) (c : Closure) → IsClosure f known n c → IsClosure f known (n + k) c
deep f known n k c s = closure-deeper f known n (n + k) c (omega arith) s

-- a side was written, and these tasks were left
module _ (f : Meanings) (old new : List (List Waiting)) (first : Bool) (s : Sides) (before after : Text) (left now : List Task) (wrote : after ≡ before ++ begin_of first) where
  opened : (more : List Task) → reverse now ≡ more ++ reverse left → begin_of first ++ texts f new more ≡ sides_text first (sides_in f old s)
      → ((start n : ℕ) → SidesStand f old start n s → TasksStand f new start n more) → all_steps f new more < sides_weight f old s → Opens f old new (sides_task first s) before after left now
  opened more tasks text stand few = record {
    more = more;
    tasks = tasks;
    text = ap (λ x. x ++ texts f new more) wrote ∙ append_assoc before (begin_of first) (texts f new more) ∙ ap (λ x. before ++ x) (text ∙ sym (task-sides f old first s));
    stand = λ start n stands. stand start n (stands-sides f old start n first s stands);
    steps = let e = steps-sides f old first s in omega arith;
  }

  pub sides-line : (face term rest : Closure) (up : ℕ) → s.style ≡ style.Lines → up ≡ s.level + 1 → IsSide f old new s.body face term rest
      → now ≡ left ++ (task.Further (record { style = s.style; level = s.level; body = rest; second = rest }) ∷ task.Write sort.Term up term ∷ task.Arrow s.style s.level ∷ task.Write sort.Conjunction up face ∷ [])
      → Opens f old new (sides_task first s) before after left now
  sides-line face term rest up lines is_up is made =
      let t = tree_in f new in
      let s' : Sides = record { style = s.style; level = s.level; body = rest; second = rest } in
      let w = ap weight is.whole in
      opened (task.Write sort.Conjunction up face ∷ task.Arrow s.style s.level ∷ task.Write sort.Term up term ∷ task.Further s' ∷ [])
      (ap reverse made ∙ reverse-append left _)
      (subst (λ x. begin_of first ++ (conjunction up (t face) ++ (arrow x s.level ++ (shown up (t term) ++ (further (sides_of x s.level (t rest) (t rest)) ++ [])))) ≡ sides_text first (sides_of x s.level (tree_in f old s.body) (tree_in f old s.second))) (sym lines)
      (subst (λ b. begin_of first ++ (conjunction up (t face) ++ (arrow style.Lines s.level ++ (shown up (t term) ++ (further (sides_of style.Lines s.level (t rest) (t rest)) ++ [])))) ≡ sides_text first (sides_of style.Lines s.level b (tree_in f old s.second))) (sym is.whole)
      (line-text first s.level up (t face) is.cover (t term) (t rest) (tree_in f old s.second) (t rest) (omega arith))))
      (λ start n stands.
      let k = is.stands n stands.1 in (
        (omega (arith, stands.0), deep f new n 3 face k.0),
        (tt, ((omega (arith, stands.0), deep f new n 1 term k.1), ((omega (arith, stands.0), deep f new n 0 rest k.2, deep f new n 0 rest k.2), tt))),
      ))
      (subst (λ x. weight (t face) + (1 + (weight (t term) + (suc (weight (t rest) + second_weight x (t rest)) + 0))) < suc (weight (tree_in f old s.body) + second_weight x (tree_in f old s.second))) (sym lines) (omega (arith, w)))

  pub sides-term : (face term rest : Closure) → s.style ≡ style.Terms → IsSide f old new s.body face term rest
      → now ≡ left ++ (task.Further (record { style = s.style; level = s.level; body = rest; second = rest }) ∷ task.Write sort.Term s.level term ∷ task.Arrow s.style s.level ∷ task.Write sort.Conjunction s.level face ∷ [])
      → Opens f old new (sides_task first s) before after left now
  sides-term face term rest plain is made =
      let t = tree_in f new in
      let s' : Sides = record { style = s.style; level = s.level; body = rest; second = rest } in
      let w = ap weight is.whole in
      opened (task.Write sort.Conjunction s.level face ∷ task.Arrow s.style s.level ∷ task.Write sort.Term s.level term ∷ task.Further s' ∷ [])
      (ap reverse made ∙ reverse-append left _)
      (subst (λ x. begin_of first ++ (conjunction s.level (t face) ++ (arrow x s.level ++ (shown s.level (t term) ++ (further (sides_of x s.level (t rest) (t rest)) ++ [])))) ≡ sides_text first (sides_of x s.level (tree_in f old s.body) (tree_in f old s.second))) (sym plain)
      (subst (λ b. begin_of first ++ (conjunction s.level (t face) ++ (arrow style.Terms s.level ++ (shown s.level (t term) ++ (further (sides_of style.Terms s.level (t rest) (t rest)) ++ [])))) ≡ sides_text first (sides_of style.Terms s.level b (tree_in f old s.second))) (sym is.whole)
      (term-text first s.level (t face) is.cover (t term) (t rest) (tree_in f old s.second) (t rest))))
      (λ start n stands.
      let k = is.stands n stands.1 in (
        (omega (arith, stands.0), deep f new n 3 face k.0),
        (tt, ((omega (arith, stands.0), deep f new n 1 term k.1), ((omega (arith, stands.0), deep f new n 0 rest k.2, deep f new n 0 rest k.2), tt))),
      ))
      (subst (λ x. weight (t face) + (1 + (weight (t term) + (suc (weight (t rest) + second_weight x (t rest)) + 0))) < suc (weight (tree_in f old s.body) + second_weight x (tree_in f old s.second))) (sym plain) (omega (arith, w)))

  pub sides-pair : (mid : List (List Waiting)) (face term rest x y z : Closure) → s.style ≡ style.Pairs → Grows mid new → IsSide f old mid s.body face term rest → IsSide f mid new s.second x y z
      → Grows old mid
      → now ≡ left ++ (task.Further (record { style = s.style; level = s.level; body = rest; second = z }) ∷ task.Say phrase.Close ∷ task.Write sort.Term s.level y ∷ task.Say phrase.Comma ∷ task.Write sort.Term s.level term ∷ task.Arrow s.style s.level ∷ task.Write sort.Conjunction s.level face ∷ [])
      → ((n : ℕ) → IsClosure f old n s.second → tree_in f mid s.second ≡ tree_in f old s.second)
      → (m : ℕ) → IsClosure f old m s.body → IsClosure f old m s.second
      → Opens f old new (sides_task first s) before after left now
  sides-pair mid face term rest x y z in_pairs later is other sooner made same m body_stands second_stands =
      let s' : Sides = record { style = s.style; level = s.level; body = rest; second = z } in
      let k = is.stands m body_stands in
      let is_face = tree-later face m later k.0 in
      let is_term = tree-later term m later k.1 in
      let is_rest = tree-later rest m later k.2 in
      let t = tree_in f new in
      let whole : tree_in f old s.body ≡ side (t face) is.cover (t term) (t rest) = is.whole ∙ cc (is_face, is_term, is_rest) in
      let whole2 : tree_in f old s.second ≡ side (t x) other.cover (t y) (t z) = sym (same m second_stands) ∙ other.whole in
      let w = ap weight whole in
      let w2 = ap weight whole2 in
      opened (task.Write sort.Conjunction s.level face ∷ task.Arrow s.style s.level ∷ task.Write sort.Term s.level term ∷ task.Say phrase.Comma ∷ task.Write sort.Term s.level y ∷ task.Say phrase.Close ∷ task.Further s' ∷ [])
      (ap reverse made ∙ reverse-append left _)
      (subst (λ p. begin_of first ++ (conjunction s.level (t face) ++ (arrow p s.level ++ (shown s.level (t term) ++ (codes "," ++ (shown s.level (t y) ++ (codes ")" ++ (further (sides_of p s.level (t rest) (t z)) ++ []))))))) ≡ sides_text first (sides_of p s.level (tree_in f old s.body) (tree_in f old s.second))) (sym in_pairs)
      (subst (λ b. begin_of first ++ (conjunction s.level (t face) ++ (arrow style.Pairs s.level ++ (shown s.level (t term) ++ (codes "," ++ (shown s.level (t y) ++ (codes ")" ++ (further (sides_of style.Pairs s.level (t rest) (t z)) ++ []))))))) ≡ sides_text first (sides_of style.Pairs s.level b (tree_in f old s.second))) (sym whole)
      (subst (λ b. begin_of first ++ (conjunction s.level (t face) ++ (arrow style.Pairs s.level ++ (shown s.level (t term) ++ (codes "," ++ (shown s.level (t y) ++ (codes ")" ++ (further (sides_of style.Pairs s.level (t rest) (t z)) ++ []))))))) ≡ sides_text first (sides_of style.Pairs s.level (side (t face) is.cover (t term) (t rest)) b)) (sym whole2)
      (pair-text first s.level (t face) is.cover (t term) (t rest) (t x) other.cover (t y) (t z)))))
      (λ start n stands.
      let i = is.stands n stands.1 in
      let j = other.stands n (closure-grows f old mid n s.second sooner stands.2) in (
        (omega (arith, stands.0), deep f new n 6 face (closure-grows f mid new n face later i.0)),
        (
          tt,
          (
            (omega (arith, stands.0), deep f new n 4 term (closure-grows f mid new n term later i.1)),
            (
              tt,
              (
                (omega (arith, stands.0), deep f new n 2 y j.1),
                (tt, ((omega (arith, stands.0), deep f new n 0 rest (closure-grows f mid new n rest later i.2), deep f new n 0 z j.2), tt)),
              ),
            ),
          ),
        ),
      ))
      (subst (λ p. weight (t face) + (1 + (weight (t term) + (1 + (weight (t y) + (1 + (suc (weight (t rest) + second_weight p (t z)) + 0)))))) < suc (weight (tree_in f old s.body) + second_weight p (tree_in f old s.second))) (sym in_pairs) (omega (arith, w, w2)))
    where
      tree-later : (c : Closure) (n : ℕ) → Grows mid new → IsClosure f mid n c → tree_in f mid c ≡ tree_in f new c
      tree-later c n g stands = sym (ap tree_of (closure_meaning-grows f mid new c g stands.environment.within))
