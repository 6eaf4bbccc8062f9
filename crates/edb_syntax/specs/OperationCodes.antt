-- How operations are stored, as trees of numbers that give them back.

use Rattle.std.specs.Prelude.{◌≡◌, ℕ, zero, suc, List, [], ◌∷◌, slice_index_or, refl}
use Rattle.std.proofs.Common.{ap}
use base.Stored.{Gv, gnil, gnum, gcons}
use Rattle.edb_lang.specs.Stored.{number, stored_name, name_in, name_back}
use Rattle.edb_lang.specs.declared.operators.UnaryOp.{UnaryOp}
use Rattle.edb_lang.specs.declared.operators.UnaryOp.TheVariants as unary
use Rattle.edb_lang.specs.declared.operators.BinaryOp.{BinaryOp}
use Rattle.edb_lang.specs.declared.operators.BinaryOp.TheVariants as binary
use Rattle.edb_syntax.specs.declared.operation.Operation.{Operation}
use Rattle.edb_syntax.specs.declared.operation.Operation.TheVariants.{Tuple, List as ListOf, ListWithTail, Unary, Binary, Send, LocalCall, RemoteCall, FunCall}

-- an operator is stored as its place among all of its kind
abbrev pub unary_ops : List UnaryOp
unary_ops = unary.Plus ∷ unary.Minus ∷ unary.BitNot ∷ unary.Not ∷ []

abbrev pub unary_place : UnaryOp → ℕ
unary_place unary.Plus = 0
unary_place unary.Minus = 1
unary_place unary.BitNot = 2
unary_place unary.Not = 3

abbrev pub unary_at : ℕ → UnaryOp
unary_at n = slice_index_or unary_ops n unary.Plus

pub unary_back : (o : UnaryOp) → unary_at (unary_place o) ≡ o
unary_back unary.Plus = refl
unary_back unary.Minus = refl
unary_back unary.BitNot = refl
unary_back unary.Not = refl

abbrev pub binary_ops : List BinaryOp
binary_ops =
    binary.Divide ∷ binary.Multiply ∷ binary.Div ∷ binary.Rem ∷ binary.BitAnd ∷ binary.And ∷ binary.Add ∷ binary.Subtract
    ∷ binary.BitOr ∷ binary.BitXor ∷ binary.ShiftLeft ∷ binary.ShiftRight ∷ binary.Or ∷ binary.Xor ∷ binary.Append ∷ binary.Remove
    ∷ binary.Equal ∷ binary.Unequal ∷ binary.AtMost ∷ binary.LessThan ∷ binary.AtLeast ∷ binary.GreaterThan ∷ binary.ExactlyEqual ∷ binary.ExactlyUnequal ∷ []

abbrev pub binary_place : BinaryOp → ℕ
binary_place binary.Divide = 0
binary_place binary.Multiply = 1
binary_place binary.Div = 2
binary_place binary.Rem = 3
binary_place binary.BitAnd = 4
binary_place binary.And = 5
binary_place binary.Add = 6
binary_place binary.Subtract = 7
binary_place binary.BitOr = 8
binary_place binary.BitXor = 9
binary_place binary.ShiftLeft = 10
binary_place binary.ShiftRight = 11
binary_place binary.Or = 12
binary_place binary.Xor = 13
binary_place binary.Append = 14
binary_place binary.Remove = 15
binary_place binary.Equal = 16
binary_place binary.Unequal = 17
binary_place binary.AtMost = 18
binary_place binary.LessThan = 19
binary_place binary.AtLeast = 20
binary_place binary.GreaterThan = 21
binary_place binary.ExactlyEqual = 22
binary_place binary.ExactlyUnequal = 23

abbrev pub binary_at : ℕ → BinaryOp
binary_at n = slice_index_or binary_ops n binary.Divide

pub binary_back : (o : BinaryOp) → binary_at (binary_place o) ≡ o
binary_back binary.Divide = refl
binary_back binary.Multiply = refl
binary_back binary.Div = refl
binary_back binary.Rem = refl
binary_back binary.BitAnd = refl
binary_back binary.And = refl
binary_back binary.Add = refl
binary_back binary.Subtract = refl
binary_back binary.BitOr = refl
binary_back binary.BitXor = refl
binary_back binary.ShiftLeft = refl
binary_back binary.ShiftRight = refl
binary_back binary.Or = refl
binary_back binary.Xor = refl
binary_back binary.Append = refl
binary_back binary.Remove = refl
binary_back binary.Equal = refl
binary_back binary.Unequal = refl
binary_back binary.AtMost = refl
binary_back binary.LessThan = refl
binary_back binary.AtLeast = refl
binary_back binary.GreaterThan = refl
binary_back binary.ExactlyEqual = refl
binary_back binary.ExactlyUnequal = refl

abbrev pub stored_operation : Operation → Gv
stored_operation Tuple = gnum 0
stored_operation ListOf = gnum 1
stored_operation ListWithTail = gnum 2
stored_operation Send = gnum 3
stored_operation RemoteCall = gnum 4
stored_operation FunCall = gnum 5
stored_operation (Unary o) = gcons gnil (gnum (unary_place o))
stored_operation (Binary o) = gcons (gnum 0) (gnum (binary_place o))
stored_operation (LocalCall f) = gcons (gcons gnil gnil) (stored_name f)

abbrev pub operation_in : Gv → Operation
operation_in (gnum zero) = Tuple
operation_in (gnum (suc zero)) = ListOf
operation_in (gnum (suc (suc zero))) = ListWithTail
operation_in (gnum (suc (suc (suc zero)))) = Send
operation_in (gnum (suc (suc (suc (suc zero))))) = RemoteCall
operation_in (gcons gnil o) = Unary (unary_at (number o))
operation_in (gcons (gnum _) o) = Binary (binary_at (number o))
operation_in (gcons _ f) = LocalCall (name_in f)
operation_in _ = FunCall

pub operation_back : (o : Operation) → operation_in (stored_operation o) ≡ o
operation_back Tuple = refl
operation_back ListOf = refl
operation_back ListWithTail = refl
operation_back Send = refl
operation_back RemoteCall = refl
operation_back FunCall = refl
operation_back (Unary o) = ap (λ p. Unary p) (unary_back o)
operation_back (Binary o) = ap (λ p. Binary p) (binary_back o)
operation_back (LocalCall f) = ap (λ g. LocalCall g) (name_back f)
