-- Modules and their texts, each by computation.

use Rattle.std.proofs.Common.{◌≡◌, ℕ, pos, negsuc, List, [], ◌∷◌, ◌++◌, None, Some, refl, codes}
use Rattle.std.proofs.Math.Utf8.{encode}
use Rattle.std.specs.Fmt.{digits}
use Rattle.std.specs.List.{flat_map}
use Rattle.edb_scan.specs.declared.lexeme.Token.TheVariants.{Str}
use Rattle.edb_lang.specs.declared.operators.UnaryOp.TheVariants as unary_op
use Rattle.edb_lang.specs.declared.operators.BinaryOp.TheVariants as op
use Rattle.edb_syntax.specs.Forms.{tuple, list, list_with_tail, unary, binary, send, remote_call, call}
use Rattle.edb_syntax.specs.Patterns as pattern
use Rattle.edb_syntax.specs.Patterns.{Pat, pats_of}
use Rattle.edb_syntax.specs.Syntax.{Exp, Seq, ClauseTree, ModuleTree, exps_of, clauses_of, catches_of, qualifiers_of, int, atom, string, float, variable, and_also, or_else, match, catch, begin, case, if_clauses, receive_after, try, fun_clauses, fun_local, fun_remote, comprehension, none, more, sequence, after, no_guard, alternative, clause, no_clauses, catch_clause, generator, filter}
use Rattle.edb_print.specs.Pieces.{tight, spelling, bytes_of}
use Rattle.edb_print.specs.Layout.{lay, text_of}

-- a text by its lines, each ended by a newline
abbrev lines : List (List ℕ) → List ℕ
lines ls = flat_map (λ l. l ++ 10 ∷ []) ls

abbrev v : List ℕ → Exp
v x = variable 1 x

abbrev a : List ℕ → Exp
a x = atom 1 x

abbrev n : ℕ → Exp
n x = int 1 (pos x)

abbrev pv : List ℕ → Pat
pv x = pattern.variable 1 x

abbrev pa : List ℕ → Pat
pa x = pattern.atom 1 x

abbrev body : Exp → Seq
body e = sequence e none

abbrev plain : List Pat → Exp → ClauseTree
plain ps e = clause (pats_of ps) no_guard (body e)

-- the clauses of a module m that has one function f, without parameters, whose body is this
abbrev module_of : Seq → ModuleTree
module_of s = record {
  name = codes "m";
  line = 1;
  exports = [];
  functions = record { name = codes "f"; arity = 0; line = 2; clauses = clauses_of (clause pattern.none no_guard s ∷ []) } ∷ [];
}

shop : ModuleTree
shop = record {
  name = codes "shop";
  line = 1;
  exports = record { name = codes "main"; arity = 0; line = 2 } ∷ [];
  functions =
      record {
        name = codes "main";
        arity = 0;
        line = 3;
        clauses = clauses_of (clause pattern.none no_guard (sequence
            (match 4 (pv (codes "X")) (call 4 (a (codes "sum")) (exps_of (n 2 ∷ n 3 ∷ []))))
            (more (remote_call 5 (a (codes "erlang")) (a (codes "display")) (exps_of (v (codes "X") ∷ []))) none)) ∷ []);
      }
      ∷ record {
        name = codes "sum";
        arity = 2;
        line = 6;
        clauses = clauses_of (clause (pats_of (pv (codes "A") ∷ pv (codes "B") ∷ [])) no_guard (sequence
            (match 7 (pv (codes "C")) (binary 7 op.Add (v (codes "A")) (v (codes "B"))))
            (more (v (codes "C")) none)) ∷ []);
      }
      ∷ [];
}

shop_text : text_of shop
    ≡ lines (codes "-module(shop)." ∷ codes "-export([main/0])." ∷ codes "main() ->" ∷ codes "    X = sum(2, 3)," ∷ codes "    erlang:display(X)."
    ∷ codes "sum(A, B) ->" ∷ codes "    C = A + B," ∷ codes "    C." ∷ [])
unfolding shop text_of digits
shop_text = refl

-- two strings in a row are one
strings_text : text_of (module_of (body (string 2 (codes "ab"))))
    ≡ lines (codes "-module(m)." ∷ codes "f() ->" ∷ (codes "    " ++ 34 ∷ codes "ab" ++ 34 ∷ codes ".") ∷ [])
unfolding text_of encode
strings_text = refl

-- a line's end in a string is written by its escape, and a character past ASCII in UTF-8
escapes_text : spelling (Str (10 ∷ 34 ∷ 233 ∷ [])) ≡ 34 ∷ 92 ∷ 110 ∷ 92 ∷ 34 ∷ 195 ∷ 169 ∷ 34 ∷ []
unfolding encode
escapes_text = refl

-- the text of an expression by itself
abbrev print : Exp → List ℕ
print e = bytes_of (lay tight 0 e) ++ 10 ∷ []

abbrev arriving : Exp
arriving = receive_after 1 (clauses_of (plain (pa (codes "stop") ∷ []) (n 1) ∷ [])) (n 5000) (body (a (codes "timeout")))

abbrev polling : Exp
polling = receive_after 1 no_clauses (n 0) (body (a (codes "ok")))

case_text : print (case 1 (v (codes "X")) (clauses_of
    (clause (pats_of (pattern.tuple 1 (pats_of (pa (codes "ok") ∷ pattern.list_with_tail 1 (pats_of (pv (codes "A") ∷ [])) (pv (codes "B")) ∷ [])) ∷ []))
    (alternative (exps_of (binary 1 op.GreaterThan (v (codes "A")) (n 1) ∷ v (codes "B") ∷ [])) (alternative (exps_of (v (codes "C") ∷ [])) no_guard))
    (body arriving)
    ∷ plain (pattern.any 1 ∷ []) polling
    ∷ [])))
    ≡ lines (codes "case X of" ∷ codes "    {ok, [A | B]} when A > 1, B; C ->" ∷ codes "        receive" ∷ codes "            stop ->"
    ∷ codes "                1" ∷ codes "        after 5000 ->" ∷ codes "            timeout" ∷ codes "        end;"
    ∷ codes "    _ ->" ∷ codes "        receive" ∷ codes "        after 0 ->" ∷ codes "            ok" ∷ codes "        end" ∷ codes "end" ∷ [])
unfolding digits
case_text = refl

if_text : print (if_clauses 1 (clauses_of
    (clause pattern.none (alternative (exps_of (v (codes "A") ∷ [])) (alternative (exps_of (v (codes "B") ∷ [])) no_guard)) (body (n 1))
    ∷ clause pattern.none (alternative (exps_of (a (codes "true") ∷ [])) no_guard) (sequence (n 2) (more (n 3) none))
    ∷ [])))
    ≡ lines (codes "if" ∷ codes "    A; B ->" ∷ codes "        1;" ∷ codes "    true ->" ∷ codes "        2," ∷ codes "        3" ∷ codes "end" ∷ [])
unfolding digits
if_text = refl

try_text : print (try 1
    (sequence (call 1 (a (codes "f")) none) (more (call 1 (a (codes "g")) none) none))
    (clauses_of (plain (pattern.int 1 (negsuc 0) ∷ []) (a (codes "a")) ∷ []))
    (catches_of
    (catch_clause (pa (codes "throw")) (pv (codes "P")) None no_guard (body (a (codes "b")))
    ∷ catch_clause (pa (codes "error")) (pattern.tuple 1 (pats_of (pa (codes "badmatch") ∷ pv (codes "V") ∷ []))) (Some (pv (codes "S")))
    (alternative (exps_of (v (codes "V") ∷ [])) no_guard) (body (a (codes "c")))
    ∷ catch_clause (pattern.any 1) (pattern.any 1) None no_guard (body (a (codes "d")))
    ∷ []))
    (after (body (call 1 (a (codes "h")) none))))
    ≡ lines (codes "try" ∷ codes "    f()," ∷ codes "    g()" ∷ codes "of" ∷ codes "    -1 ->" ∷ codes "        a" ∷ codes "catch"
    ∷ codes "    throw:P ->" ∷ codes "        b;" ∷ codes "    error:{badmatch, V}:S when V ->" ∷ codes "        c;"
    ∷ codes "    _:_ ->" ∷ codes "        d" ∷ codes "after" ∷ codes "    h()" ∷ codes "end" ∷ [])
unfolding digits
try_text = refl

fun_text : print (match 1 (pv (codes "F")) (fun_clauses 1 0 (clauses_of
    (plain (pattern.int 1 (pos 0) ∷ []) (n 1)
    ∷ clause (pats_of (pv (codes "N") ∷ [])) (alternative (exps_of (v (codes "N") ∷ [])) no_guard) (body (v (codes "N")))
    ∷ []))))
    ≡ lines (codes "F = fun(0) ->" ∷ codes "    1;" ∷ codes "    (N) when N ->" ∷ codes "        N" ∷ codes "end" ∷ [])
unfolding digits
fun_text = refl

-- what stands after an `end` on its line goes on from that line's depth
behind_end_text : print (call 1 (a (codes "f")) (exps_of
    (begin 1 (body (n 1)) ∷ begin 1 (sequence (n 2) (more (float 1) none)) ∷ fun_local 1 0 (codes "f") 2 ∷ fun_remote 1 (codes "m") (codes "End") 0 ∷ [])))
    ≡ lines (codes "f(begin" ∷ codes "    1" ∷ codes "end, begin" ∷ codes "    2," ∷ codes "    0.0" ∷ codes "end, fun f/2, fun m:'End'/0)" ∷ [])
unfolding digits
behind_end_text = refl

comprehension_text : print (comprehension 1 (tuple 1 (exps_of (v (codes "X") ∷ list 1 none ∷ list_with_tail 1 (exps_of (n 1 ∷ n 2 ∷ [])) (v (codes "T")) ∷ [])))
    (qualifiers_of (generator (pv (codes "X")) (v (codes "L")) ∷ filter (binary 1 op.LessThan (v (codes "X")) (n 9)) ∷ [])))
    ≡ lines (codes "[{X, [], [1, 2 | T]} || X <- L, X < 9]" ∷ [])
unfolding digits
comprehension_text = refl

operators_text : print (binary 1 op.Multiply (binary 1 op.Add (n 1) (n 2)) (unary 1 unary_op.Not (v (codes "X"))))
    ≡ lines (codes "(1 + 2) * (not X)" ∷ [])
unfolding digits
operators_text = refl

words_text : print (and_also 1 (v (codes "A")) (or_else 1 (binary 1 op.Rem (v (codes "B")) (call 1 (a (codes "f")) none)) (unary 1 unary_op.BitNot (v (codes "C")))))
    ≡ lines (codes "A andalso ((B rem f()) orelse (bnot C))" ∷ [])
unfolding digits
words_text = refl

minus_text : print (unary 1 unary_op.Minus (unary 1 unary_op.Minus (n 1))) ≡ lines (codes "-(-1)" ∷ [])
unfolding digits
minus_text = refl

match_text : print (match 1 (pv (codes "A")) (match 1 (pv (codes "B")) (catch 1 (v (codes "C"))))) ≡ lines (codes "A = B = catch C" ∷ [])
match_text = refl

send_text : print (send 1 (v (codes "P")) (match 1 (pv (codes "A")) (send 1 (v (codes "Q")) (call 1 (v (codes "F")) (exps_of (n 1 ∷ []))))))
    ≡ lines (codes "P ! (A = Q ! F(1))" ∷ [])
unfolding digits
send_text = refl

catch_text : print (tuple 1 (exps_of (catch 1 (call 1 (a (codes "f")) none) ∷ catch 1 (binary 1 op.Add (n 1) (n 2)) ∷ catch 1 (catch 1 (v (codes "X"))) ∷ [])))
    ≡ lines (codes "{catch f(), catch (1 + 2), catch (catch X)}" ∷ [])
unfolding digits
catch_text = refl

callee_text : print (remote_call 1 (call 1 (a (codes "f")) none) (binary 1 op.Add (n 1) (n 2)) (exps_of (call 1 (call 1 (a (codes "g")) none) (exps_of (n 3 ∷ [])) ∷ [])))
    ≡ lines (codes "(f()):(1 + 2)((g())(3))" ∷ [])
unfolding digits
callee_text = refl
