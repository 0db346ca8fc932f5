-- Normal terms with unknown parts, each under a normal substitution; how they are substituted.
use Rattle.std.specs.Prelude.{ℕ, zero, suc, ◌+◌, ◌-◌, List, [], ◌∷◌, Bool}
use Rattle.std.specs.Prelude.{true, false, ◌&&◌, ◌==◌, if◌then◌else◌}
use denote.Enum.Bare.{sameb}
use Rattle.trees.specs.declared.op.Op.{Op}
use Rattle.trees.specs.contracts.op.Op.{the_type}
use Rattle.trees.specs.Operators.{binds_of}
use Rattle.trees.specs.Trees.{raise_index}
use Rattle.trees.specs.Language.{Language}
use Rattle.patterns.specs.Patterns.{ContextOver, ContextPart, Empty, AddVar, AddName, AddFace}
use Rattle.patterns.specs.Values.{Parts}

mutual
  pub data Normal : Type 0 where
    NVar : ℕ → Normal
    NMake : Op → Normals → Normal
    -- the tree that is part k, under s
    NPart : ℕ → NormalSubst → Normal
    -- what the substitution that is part k makes of the index n, under s
    NEntry : ℕ → ℕ → NormalSubst → Normal

  pub data Normals : Type 0 where
    NoNormals : Normals
    MoreNormals : Normal → Normals → Normals

  pub data NormalSubst : Type 0 where
    NShift : ℕ → NormalSubst
    NPush : NormalSubst → Normal → NormalSubst
    -- the substitution that is part k without what it does to the first n indices, and then s
    NRest : ℕ → ℕ → NormalSubst → NormalSubst

-- equality

abbrev pub same_op : Op → Op → Bool
same_op o p = sameb the_type o p

abbrev mutual
  pub same_normal : Normal → Normal → Bool
  same_normal (NVar n) (NVar m) = n == m
  same_normal (NMake o ts) (NMake p us) = same_op o p && same_normals ts us
  same_normal (NPart k s) (NPart l r) = (k == l) && same_normal_subst s r
  same_normal (NEntry k n s) (NEntry l m r) = (k == l) && ((n == m) && same_normal_subst s r)
  same_normal _ _ = false

  pub same_normals : Normals → Normals → Bool
  same_normals NoNormals NoNormals = true
  same_normals (MoreNormals t ts) (MoreNormals u us) = same_normal t u && same_normals ts us
  same_normals _ _ = false

  pub same_normal_subst : NormalSubst → NormalSubst → Bool
  same_normal_subst (NShift n) (NShift m) = n == m
  same_normal_subst (NPush s t) (NPush r u) = same_normal t u && same_normal_subst s r
  same_normal_subst (NRest n k s) (NRest m l r) = (n == m) && ((k == l) && same_normal_subst s r)
  same_normal_subst _ _ = false

-- A tail that does nothing is trimmed from a substitution that stands under a part, where its
-- action alone counts: `push (shift (n + 1)) (var n)` acts as `shift n`, and what a part makes of
-- its first index, pushed on the rest of the part, acts as the part.

abbrev pub is_var : ℕ → Normal → Bool
is_var n (NVar m) = n == m
is_var n _ = false

abbrev pub is_entry : ℕ → ℕ → NormalSubst → Normal → Bool
is_entry k n s (NEntry l m r) = (k == l) && ((n == m) && same_normal_subst s r)
is_entry k n s _ = false

abbrev pub push_trimmed : NormalSubst → Normal → NormalSubst
push_trimmed (NShift (suc n)) t = (if is_var n t then NShift n else NPush (NShift (suc n)) t)
push_trimmed (NRest (suc n) k s) t =
    (if is_entry k n s t then NRest n k s else NPush (NRest (suc n) k s) t)
push_trimmed s t = NPush s t

abbrev pub trimmed : NormalSubst → NormalSubst
trimmed (NShift n) = NShift n
trimmed (NPush s t) = push_trimmed (trimmed s) t
trimmed (NRest n k s) = NRest n k (trimmed s)

-- weakening: the indices from c on are raised by one

-- the shift by n, where the m indices that it maps to n and on are kept and those above are raised
abbrev pub shift_past : ℕ → ℕ → NormalSubst
shift_past zero n = NShift (suc n)
shift_past (suc m) n = NPush (shift_past m (suc n)) (NVar n)

abbrev mutual
  pub weaken_from : ℕ → Normal → Normal
  weaken_from c (NVar k) = NVar (raise_index c 1 k)
  weaken_from c (NMake op ts) = NMake op (weaken_kids c op 0 ts)
  weaken_from c (NPart k s) = NPart k (weaken_subst c s)
  weaken_from c (NEntry k n s) = NEntry k n (weaken_subst c s)

  pub weaken_kids : ℕ → Op → ℕ → Normals → Normals
  weaken_kids c op at NoNormals = NoNormals
  weaken_kids c op at (MoreNormals t ts) =
      MoreNormals (weaken_from (c + binds_of op at) t) (weaken_kids c op (suc at) ts)

  pub weaken_subst : ℕ → NormalSubst → NormalSubst
  weaken_subst c (NShift n) = shift_past (c - n) n
  weaken_subst c (NPush s t) = NPush (weaken_subst c s) (weaken_from c t)
  weaken_subst c (NRest n k s) = NRest n k (weaken_subst c s)

abbrev pub lift_normal : ℕ → NormalSubst → NormalSubst
lift_normal zero d = d
lift_normal (suc b) d = NPush (weaken_subst 0 (lift_normal b d)) (NVar 0)

-- substitution

abbrev pub look_normal : NormalSubst → ℕ → Normal
look_normal (NShift n) k = NVar (k + n)
look_normal (NPush d t) zero = t
look_normal (NPush d t) (suc k) = look_normal d k
look_normal (NRest n p s) k = NEntry p (k + n) (trimmed s)

abbrev pub drop_one : NormalSubst → NormalSubst
drop_one (NShift n) = NShift (suc n)
drop_one (NPush d t) = d
drop_one (NRest n k s) = NRest (suc n) k s

abbrev pub drop_normal : ℕ → NormalSubst → NormalSubst
drop_normal zero d = d
drop_normal (suc n) d = drop_normal n (drop_one d)

abbrev mutual
  pub apply_normal : NormalSubst → Normal → Normal
  apply_normal d (NVar k) = look_normal d k
  apply_normal d (NMake op ts) = NMake op (apply_normals d op 0 ts)
  apply_normal d (NPart k s) = NPart k (trimmed (after d s))
  apply_normal d (NEntry k n s) = NEntry k n (trimmed (after d s))

  pub apply_normals : NormalSubst → Op → ℕ → Normals → Normals
  apply_normals d op at NoNormals = NoNormals
  apply_normals d op at (MoreNormals t ts) =
      MoreNormals (apply_normal (lift_normal (binds_of op at) d) t) (apply_normals d op (suc at) ts)

  -- s, and then d
  pub after : NormalSubst → NormalSubst → NormalSubst
  after d (NShift n) = drop_normal n d
  after d (NPush s t) = NPush (after d s) (apply_normal d t)
  after d (NRest n k s) = NRest n k (after d s)

-- normal terms as a language

abbrev pub NormalContext : Type 0
NormalContext = ContextOver Normal

abbrev pub normals_of : List Normal → Normals
normals_of [] = NoNormals
normals_of (t ∷ ts) = MoreNormals t (normals_of ts)

abbrev pub normals : Language
normals = record {
  tree = Normal;
  subst = NormalSubst;
  context = NormalContext;
  var = NVar;
  make = λ op ts. NMake op (normals_of ts);
  apply = λ t d. apply_normal d t;
  shift_by = NShift;
  push = NPush;
  then = λ d e. after e d;
  nil = Empty;
  with_var = AddVar;
  with_name = AddName;
  with_face = AddFace;
}

-- parts of which nothing is known
abbrev pub unknown : Parts normals
unknown = record {
  tree = λ k. NPart k (NShift 0);
  subst = λ k. NRest 0 k (NShift 0);
  context = ContextPart;
}
