-- The trees of the Kan operations as the literature writes them: with bound names, where the table
-- has indices that are shifted by hand. A line `i.A` is a function from a name to a tree.
use Rattle.std.specs.Prelude.{ℕ, suc, ◌-◌, List, [], ◌∷◌}
use Rattle.trees.specs.Language.{Language}
use Rattle.rules.specs.Table as table

module _ (L : Language) where
  open L use {tree, var, apply, shift_by, push}

  -- A tree with names: what it is where it stands under so many variables and names.
  abbrev pub Named : Type 0
  Named = ℕ → tree

  abbrev pub Line : Type 0
  Line = Named → Named

  -- The parts of a rule: a tree over its context, a line, and a family over a line.

  abbrev pub plain : tree → Named
  plain t n = apply t (shift_by n)

  abbrev pub line : tree → Line
  line t i n = apply t (push (shift_by n) (i n))

  abbrev pub family : tree → Named → Line
  family t i x n = apply t (push (push (shift_by n) (i n)) (x n))

  -- what a binder binds: the name is the index that points to the binder, however deep it stands
  abbrev pub bound : Line → Named
  bound t n = t (λ m. var (m - suc n)) (suc n)

  -- the operators

  abbrev pub i0 : Named
  i0 n = table.i0 L

  abbrev pub i1 : Named
  i1 n = table.i1 L

  abbrev pub neg : Named → Named
  neg r n = table.neg L (r n)

  abbrev pub min : Named → Named → Named
  min r s n = table.min L (r n) (s n)

  abbrev pub f0 : Named
  f0 n = table.f0 L

  abbrev pub eq0 : Named → Named
  eq0 r n = table.eq0 L (r n)

  abbrev pub eq1 : Named → Named
  eq1 r n = table.eq1 L (r n)

  abbrev pub join : Named → Named → Named
  join p q n = table.join L (p n) (q n)

  abbrev pub all : Line → Named
  all p n = table.all L (bound p n)

  abbrev pub pi : Named → Line → Named
  pi A B n = table.pi L (A n) (bound B n)

  abbrev pub lam : Named → Line → Named
  lam A b n = table.lam L (A n) (bound b n)

  abbrev pub app : Named → Named → Named
  app f a n = table.app L (f n) (a n)

  abbrev pub sig : Named → Line → Named
  sig A B n = table.sig L (A n) (bound B n)

  abbrev pub pair : Named → Named → Named
  pair a b n = table.pair L (a n) (b n)

  abbrev pub fst : Named → Named
  fst c n = table.fst L (c n)

  abbrev pub snd : Named → Named
  snd c n = table.snd L (c n)

  abbrev pub pathp : Line → Named → Named → Named
  pathp A u v n = table.pathp L (bound A n) (u n) (v n)

  abbrev pub plam : Line → Named
  plam b n = table.plam L (bound b n)

  abbrev pub papp : Named → Named → Named
  papp c r n = table.papp L (c n) (r n)

  abbrev pub nat : Named
  nat n = table.nat L

  abbrev pub successor : Named → Named
  successor x n = table.suc L (x n)

  abbrev pub sys : Named → Named → Named → Named → Named
  sys p q a b n = table.sys L (p n) (q n) (a n) (b n)

  abbrev pub empty : Named
  empty n = table.empty L

  abbrev pub comp : Line → Named → Line → Named → Named
  comp A p b a n = table.comp L (bound A n) (p n) (bound b n) (a n)

  abbrev pub glue_type : Named → Named → Named → Named → Named
  glue_type A p T w n = table.glue_type L (A n) (p n) (T n) (w n)

  abbrev pub glue : Named → Named → Named → Named
  glue p c a n = table.glue L (p n) (c n) (a n)

  abbrev pub unglue : Named → Named → Named → Named → Named
  unglue p T w b n = table.unglue L (p n) (T n) (w n) (b n)

  -- Systems: sides, each a face and a line on it.

  abbrev pub cover : List (Named × Line) → Named
  cover [] = f0
  cover (s ∷ S) = join s.0 (cover S)

  abbrev pub body : List (Named × Line) → Line
  body [] i = empty
  body (s ∷ S) i = sys s.0 (cover S) (s.1 i) (body S i)

  abbrev pub comp_of : Line → List (Named × Line) → Named → Named
  comp_of A S a = comp A (cover S) (body S) a

  -- Filling, forwards and backwards.

  abbrev pub fill : Line → Named → Line → Named → Named → Named
  fill A p b a r =
      comp_of (λ j. A (min r j)) ((p, λ j. b (min r j)) ∷ (eq0 r, λ j. a) ∷ []) a

  abbrev pub fill_of : Line → List (Named × Line) → Named → Named → Named
  fill_of A S a r = fill A (cover S) (body S) a r

  abbrev pub back : Line → Named → Named → Named
  back A y r = fill (λ i. A (neg i)) f0 (λ i. empty) y (neg r)

  -- Contractions, fibers and equivalences.

  abbrev pub is_contr : Named → Named
  is_contr A = sig A (λ x. pi A (λ y. pathp (λ i. A) x y))

  abbrev pub fiber : Named → Named → Named → Named → Named
  fiber T A f y = sig T (λ x. pathp (λ i. A) y (app f x))

  abbrev pub is_equiv : Named → Named → Named → Named
  is_equiv T A f = pi A (λ y. is_contr (fiber T A f y))

  abbrev pub equiv : Named → Named → Named
  equiv T A = sig (pi T (λ x. A)) (λ f. is_equiv T A f)

  abbrev pub contr : Named → Named → Named → Named → Named
  contr A c p b = comp (λ i. A) p (λ i. papp (app (snd c) b) i) (fst c)

  abbrev pub ext : Named → Named → Named → Named → Named → Named → Named
  ext T A w p z a = contr (fiber T A (fst w) a) (app (snd w) a) p z

  abbrev pub pres : Line → Line → Line → Named → Line → Named → Named
  pres T A f p t t0 =
      plam λ j. comp A (join p (eq1 j)) (λ i. app (f i) (fill T p t t0 i)) (app (f i0) t0)

  -- Composition at each form of type.

  abbrev pub comp_pi : Line → (Named → Line) → Named → Line → Named → Named
  comp_pi A B p b a =
      lam (A i1) λ y.
      comp (λ i. B i (back A y i)) p (λ i. app (b i) (back A y i)) (app a (back A y i0))

  abbrev pub comp_sig : Line → (Named → Line) → Named → Line → Named → Named
  comp_sig A B p b a =
      pair
      (comp A p (λ i. fst (b i)) (fst a))
      (comp (λ i. B i (fill A p (λ j. fst (b j)) (fst a) i)) p (λ i. snd (b i)) (snd a))

  abbrev pub comp_path : (Named → Line) → Line → Line → Named → Line → Named → Named
  comp_path A u v p b a =
      plam λ j.
      comp_of (λ i. A i j) ((p, λ i. papp (b i) j) ∷ (eq0 j, u) ∷ (eq1 j, v) ∷ []) (papp a j)

  -- what is glued: an element E of the fiber at the base k, by the sides S, and a path to it
  abbrev pub glue_sides : Line → Line → Line → Line → Named → Line → Named → Named →
      List (Named × Line)
  glue_sides A q T w p b a k =
      (all q, λ i. pair (comp T p b a) (pres T A (λ i. fst (w i)) p b a))
      ∷ (p, λ i. pair (b i1) (plam λ j. k))
      ∷ []

  abbrev pub glue_from : Line → Line → Line → Line → Named → Line → Named → Named → Named
  glue_from A q T w p b a k =
      let S : List (Named × Line) = glue_sides A q T w p b a k in
      let E : Named = ext (T i1) (A i1) (w i1) (cover S) (body S i0) k in
      let g : Named = unglue (q i1) (T i1) (w i1) (b i1) in
      glue (q i1) (fst E)
      (comp_of (λ j. A i1) ((q i1, λ j. papp (snd E) j) ∷ (p, λ j. g) ∷ []) k)

  abbrev pub comp_glue : Line → Line → Line → Line → Named → Line → Named → Named
  comp_glue A q T w p b a =
      glue_from A q T w p b a
      (comp A p (λ i. unglue (q i) (T i) (w i) (b i)) (unglue (q i0) (T i0) (w i0) a))

  -- The equivalence between the ends of a line of types.

  abbrev pub eqv_u : Line → Named → Named → Named
  eqv_u E x r = fill E f0 (λ i. empty) x r

  abbrev pub eqv_m : Line → Named → Named → Named → Named
  eqv_m E y j r =
      let g : Named = back E y i0 in
      fill_of E ((eq0 j, λ i. back E y i) ∷ (eq1 j, λ i. eqv_u E g i) ∷ []) g r

  abbrev pub eqv_n : Line → Named → Named → Named → Named → Named → Named
  eqv_n E y x c j r =
      fill_of
      (λ i. E (neg i))
      ((eq0 j, λ i. back E y (neg i)) ∷ (eq1 j, λ i. eqv_u E x (neg i)) ∷ [])
      (papp c j)
      (neg r)

  abbrev pub eqv_o : Line → Named → Named → Named → Named
  eqv_o E y z k = eqv_n E y (fst z) (snd z) k i0

  abbrev pub eqv_square : Line → Named → Named → Named → Named → Named
  eqv_square E y z k j =
      comp_of
      E
      ((eq0 k, λ i. eqv_m E y j i)
      ∷ (eq1 k, λ i. eqv_n E y (fst z) (snd z) j i)
      ∷ (eq0 j, λ i. back E y i)
      ∷ (eq1 j, λ i. eqv_u E (eqv_o E y z k) i)
      ∷ [])
      (eqv_o E y z (min j k))

  abbrev pub eqv : Line → Named
  eqv E =
      let f : Named = lam (E i0) (λ x. comp E f0 (λ i. empty) x) in
      pair f
      (lam (E i1) λ y.
      pair
      (pair (back E y i0) (plam λ j. eqv_m E y j i1))
      (lam (fiber (E i0) (E i1) f y) λ z.
      plam λ k. pair (eqv_o E y z k) (plam λ j. eqv_square E y z k j)))

  abbrev pub comp_u : Named → Line → Named → Named
  comp_u p b a = glue_type a p (b i1) (eqv (λ i. b (neg i)))

  -- a step of a recursion
  abbrev pub motive_step : Line → Named
  motive_step P = pi nat (λ x. pi (P x) (λ y. P (successor x)))

  -- The same over the trees that are the parts of a rule.

  abbrev pub named_step : tree → tree
  named_step P = motive_step (line P) 0

  abbrev pub named_equiv : tree → tree → tree
  named_equiv T A = equiv (plain T) (plain A) 0

  abbrev pub named_pi : tree → tree → tree → tree → tree → tree
  named_pi A B p b a = comp_pi (line A) (family B) (plain p) (line b) (plain a) 0

  abbrev pub named_sig : tree → tree → tree → tree → tree → tree
  named_sig A B p b a = comp_sig (line A) (family B) (plain p) (line b) (plain a) 0

  abbrev pub named_path : tree → tree → tree → tree → tree → tree → tree
  named_path A u v p b a =
      comp_path (family A) (line u) (line v) (plain p) (line b) (plain a) 0

  abbrev pub named_glue : tree → tree → tree → tree → tree → tree → tree → tree
  named_glue A q T w p b a =
      comp_glue (line A) (line q) (line T) (line w) (plain p) (line b) (plain a) 0

  abbrev pub named_u : tree → tree → tree → tree
  named_u p b a = comp_u (plain p) (line b) (plain a) 0
