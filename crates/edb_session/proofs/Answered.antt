-- What follows of each answer.

use Rattle.std.proofs.Common.{Result, Ok, Err, OnOk, OnErr, IfOk, IfErr}

pub on_ok : {A E P Q : Type 0} (r : Result A E) → (P → Q) → OnOk r P → OnOk r Q
on_ok (Ok a) f p = f p
on_ok (Err e) f p = tt

pub on_err : {A E P Q : Type 0} (r : Result A E) → (P → Q) → OnErr r P → OnErr r Q
on_err (Ok a) f p = tt
on_err (Err e) f p = f p

pub if_err : {A E : Type 0} {P Q : E → Type 0} (r : Result A E) → ((e : E) → P e → Q e) → IfErr r P → IfErr r Q
if_err (Ok a) f p = tt
if_err (Err e) f p = f e p

pub if_ok_of_three : {A E : Type 0} {P Q R S : A → Type 0} (r : Result A E) → ((a : A) → P a → Q a → R a → S a) → IfOk r P → IfOk r Q → IfOk r R → IfOk r S
if_ok_of_three (Ok a) f p q s = f a p q s
if_ok_of_three (Err e) f p q s = tt
