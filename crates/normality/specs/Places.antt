-- Where trees stand, and how operators are tested.
use Rattle.std.specs.Prelude.{ℕ, zero, suc}
use Rattle.trees.specs.declared.op.Op.{Op}
use Rattle.trees.specs.declared.op.Op.TheVariants as op
use Rattle.trees.specs.Trees.{Tree}
use Rattle.normal_formulas.specs.Atoms.{IsNot}
use Rattle.normality.specs.declared.places.Place.{Place}
use Rattle.normality.specs.declared.places.Place.TheVariants as place
use Rattle.normality.specs.declared.places.Kind.{Kind}
use Rattle.normality.specs.declared.places.Kind.TheVariants as kind
use Rattle.normal_parts.specs.Normal.{IsLine}

-- no rule of computation fires for a tree at that place
abbrev pub MayStand : Place → Tree → Type 0
MayStand place.Anywhere t = Unit {0}
MayStand place.Function t = IsNot op.Lam t
MayStand place.Pair t = IsNot op.Pair t
MayStand place.Path t = IsNot op.PLam t
MayStand place.Number t = IsNot op.Zero t × IsNot op.Suc t
MayStand place.Line t = IsLine t
MayStand place.Glued t = IsNot op.Glue t

-- the place of a kid
abbrev pub place_of : Op → ℕ → Place
place_of op.App zero = place.Function
place_of op.Fst zero = place.Pair
place_of op.Snd zero = place.Pair
place_of op.NatRec (suc (suc (suc zero))) = place.Number
place_of _ _ = place.Anywhere

-- which operators are tested by their kids alone, and which are in no normal tree
abbrev pub kind_of : Op → Kind
kind_of op.PApp = kind.PathApplication
kind_of op.Comp = kind.Composition
kind_of op.GlueType = kind.GlueType
kind_of op.Glue = kind.Glue
kind_of op.Unglue = kind.Unglue
kind_of op.U = kind.ByKids
kind_of op.Pi = kind.ByKids
kind_of op.Lam = kind.ByKids
kind_of op.App = kind.ByKids
kind_of op.Sig = kind.ByKids
kind_of op.Pair = kind.ByKids
kind_of op.Fst = kind.ByKids
kind_of op.Snd = kind.ByKids
kind_of op.PathP = kind.ByKids
kind_of op.PLam = kind.ByKids
kind_of op.Nat = kind.ByKids
kind_of op.Zero = kind.ByKids
kind_of op.Suc = kind.ByKids
kind_of op.NatRec = kind.ByKids
kind_of _ = kind.Never
