-- The term that contracts see, by the nodes of src/.

use Rattle.std.specs.Prelude.{List, [], ◌∷◌}
use Rattle.edb_lang.specs.declared.term.Captured.{Captured}
use Rattle.edb_lang.specs.declared.term.FunValue.{FunValue}
use Rattle.edb_lang.specs.declared.term.FunValue.TheVariants.{Made, Named}
use Rattle.edb_lang.specs.declared.term.Node.{Node}
use Rattle.edb_lang.specs.declared.term.Node.TheVariants.{Int, Atom, Ref, Fun, Pid, Tuple, Nil, List as Cons}
use Rattle.edb_lang.specs.Terms.{Datum, Captures, int, atom, reference, made, named, pid, tuple, nil, cons, of_list}
use Rattle.edb_lang.specs.Pairs.{Pairs, captures_of}

-- the variables with their values, as pairs
abbrev pub pairs_of : List Captured → Pairs
pairs_of [] = []
pairs_of (c ∷ cs) = (c.name, c.value) ∷ pairs_of cs

-- the same in a fun's own form
abbrev pub captures_in : List Captured → Captures
captures_in cs = captures_of (pairs_of cs)

abbrev pub fun_of : FunValue → Datum
fun_of (Made m v i a cs) = made m v i a (captures_in cs.items)
fun_of (Named m f a) = named m f a

abbrev pub datum_of : Node → Datum
datum_of (Int i) = int i
datum_of (Atom a) = atom a
datum_of (Ref r) = reference r
datum_of (Fun f) = fun_of f.value
datum_of (Pid p) = pid p
datum_of (Tuple ts) = tuple (of_list ts.items)
datum_of Nil = nil
datum_of (Cons c) = cons c.value.head c.value.tail
