-- No command is refused as `not_waiting`, so each reply is in range.

use Rattle.std.proofs.Common.{◌≡◌, inl, inr, ℕ, Bool, true, false, if◌then◌else◌, List, [], ◌∷◌, Option, None, Some, refl, subst, sym}
use Rattle.std.proofs.lemmas.Bool.{both_ways, and_parts}
use Rattle.std.specs.List.{list_all}
use Rattle.edb_event.specs.declared.call.Call.{Call}
use Rattle.edb_event.specs.declared.call.Call.TheVariants as command
use Rattle.edb_event.specs.declared.reply.Refusal.{Refusal}
use Rattle.edb_event.specs.declared.reply.Refusal.TheVariants as refusal
use Rattle.edb_event.specs.declared.reply.Reply.{Reply}
use Rattle.edb_event.specs.declared.reply.Reply.TheVariants as reply
use Rattle.edb_event.specs.Ranges.{IsReply}
use Rattle.std.specs.Option.{option_map_or}
use Rattle.edb_event.specs.declared.call.ProcStatus.{ProcStatus}
use Rattle.edb_rules.specs.Plans.{Plan}
use Rattle.edb_rules.specs.Facts.{Facts}
use Rattle.edb_rules.specs.Server.{Server}
use Rattle.edb_rules.specs.Refusals.{first_case, refused, cases_of}
use Rattle.edb_rules.specs.Answers.{has_status, first_with, answer, reply_of}
use Rattle.edb_rules.specs.Legal.{IsAnswer}

-- a refusal of today
abbrev is_known : Refusal → Bool
is_known refusal.NotWaiting = false
is_known _ = true

abbrev IsKnown : Option Refusal → Type 0
IsKnown None = Unit {0}
IsKnown (Some r) = IsReply (reply.Refused r)

known : (r : Refusal) → is_known r ≡ true → IsReply (reply.Refused r)
known refusal.NotWaiting e = absurd (both_ways false refl e)
known _ e = tt

if_known : (b : Bool) (r : Refusal) (o : Option Refusal) → is_known r ≡ true → IsKnown o → IsKnown (if b then Some r else o)
if_known true r o first second = known r first
if_known false r o first second = second

case_known : (cs : List (Bool × Refusal)) → list_all (λ c. is_known c.1) cs ≡ true → IsKnown (first_case cs)
case_known [] all = tt
case_known (c ∷ cs) all = let both = and_parts (is_known c.1) (list_all (λ d. is_known d.1) cs) all in if_known c.0 c.1 (first_case cs) both.0 (case_known cs both.1)

refused_known : (s : Server) (c : ℕ) (x : Call) → IsKnown (refused s c x)
refused_known s c (command.Start m n args) = case_known (cases_of s c (command.Start m n args)) refl
refused_known s c (command.Load m v) = case_known (cases_of s c (command.Load m v)) refl
refused_known s c (command.Ii m) = case_known (cases_of s c (command.Ii m)) refl
refused_known s c (command.Iq m) = case_known (cases_of s c (command.Iq m)) refl
refused_known s c (command.Ib m l) = case_known (cases_of s c (command.Ib m l)) refl
refused_known s c (command.IbIn m f a) = case_known (cases_of s c (command.IbIn m f a)) refl
refused_known s c (command.IrIn m f a) = case_known (cases_of s c (command.IrIn m f a)) refl
refused_known s c (command.Ia p) = case_known (cases_of s c (command.Ia p)) refl
refused_known s c (command.Detach p) = case_known (cases_of s c (command.Detach p)) refl
refused_known s c (command.Step p) = case_known (cases_of s c (command.Step p)) refl
refused_known s c (command.Next p) = case_known (cases_of s c (command.Next p)) refl
refused_known s c (command.Finish p) = case_known (cases_of s c (command.Finish p)) refl
refused_known s c (command.Halt p) = case_known (cases_of s c (command.Halt p)) refl
refused_known s c (command.Continue p) = case_known (cases_of s c (command.Continue p)) refl
refused_known s c (command.Skip p) = case_known (cases_of s c (command.Skip p)) refl
refused_known s c (command.Kill p) = case_known (cases_of s c (command.Kill p)) refl
refused_known s c (command.Timeout p) = case_known (cases_of s c (command.Timeout p)) refl
refused_known s c (command.Bindings p) = case_known (cases_of s c (command.Bindings p)) refl
refused_known s c (command.Frames p) = case_known (cases_of s c (command.Frames p)) refl
refused_known s c _ = tt

await_known : (b : Bool) (p : ℕ) (t : ProcStatus) → IsReply (if b then reply.Status p t else reply.Quiet)
await_known true p t = tt
await_known false p t = tt

any_known : (o : Option ℕ) (t : ProcStatus) → IsReply (option_map_or (λ (p : ℕ). reply.Status p t) o reply.Quiet)
any_known None t = tt
any_known (Some p) t = tt

answer_known : (s : Server) (x : Call) → IsReply (answer s x)
answer_known s (command.Await p t) = await_known (has_status s p t) p t
answer_known s (command.AwaitAny t) = any_known (first_with s t) t
answer_known s _ = tt

reply_known : (s : Server) (c : ℕ) (x : Call) → IsReply (reply_of s c x)
reply_known s c x = by_refusal (refused s c x) refl
  where
    by_refusal : (o : Option Refusal) → refused s c x ≡ o → IsReply (reply_of s c x)
    by_refusal None is = rw is (answer_known s x)
    by_refusal (Some r) is = rw is (subst IsKnown is (refused_known s c x))

-- an answer is in range
pub is_reply : (plan : Plan) (f : Facts) (c : ℕ) (x : Call) (r : Reply) → IsAnswer plan f c x r → IsReply r
is_reply plan f c x r (inl a) = subst IsReply (sym a.same) (reply_known f.server c x)
is_reply plan f c x r (inr q) = subst IsReply (sym q.same) tt
