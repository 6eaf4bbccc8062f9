-- What is no built-in has no marks.
use Rattle.std.proofs.Common.{◌≡◌, ℕ, Bool, true, false, not, ◌&&◌, ◌||◌, List, [], ◌∷◌, None, is_some, codes, bytes_eq, refl, sym, ap, subst, ◌∙◌}
use Rattle.std.specs.List.{list_all, list_any}
use Rattle.std.proofs.lemmas.Bool.{and_parts}
use Rattle.std.proofs.lemmas.Slice.Eq.{bytes_eq-Decides}
use Rattle.edb_table.specs.BuiltIns.{BuiltIn, erlang_keys, int_keys, io_keys, lists_keys, index_of}
use Rattle.edb_table.specs.Keys.{Key, same_key}
use Rattle.edb_table.specs.Marking.{is_among, named_keys, guard_keys, act_keys, is_auto, is_guard, is_shared}
use Rattle.edb_table.proofs.Halving.{same_key-Decides}

-- what all of the keys pass, one of them passes
one_passes : (test : Key → Bool) (key : Key) (keys : List Key) → list_all test keys ≡ true → list_any (same_key key) keys ≡ true → test key ≡ true
one_passes test key [] all some = cc
one_passes test key (next ∷ keys) all some =
    by (same_key key next) refl (one_passes test key keys (and_parts (test next) (list_all test keys) all).1)
  where
    by : (b : Bool) → same_key key next ≡ b → (list_any (same_key key) keys ≡ true → test key ≡ true) → test key ≡ true
    by true e later = ap test ((same_key-Decides key next).0 e) ∙ (and_parts (test next) (list_all test keys) all).0
    by false e later = later (rw e at some)

-- what is no built-in is among no keys that are all built-ins
not_among : (asked : BuiltIn) (home : List ℕ) (keys : List Key) → list_all (λ key. is_some (index_of (home, key))) keys ≡ true → index_of asked ≡ None → is_among home keys asked ≡ false
not_among asked home keys all none = by (is_among home keys asked) refl
  where
    by : (b : Bool) → is_among home keys asked ≡ b → b ≡ false
    by true e =
        let both = and_parts (bytes_eq asked.0 home) (list_any (same_key asked.1) keys) e in
        let there : is_some (index_of (home, asked.1)) ≡ true = one_passes (λ key. is_some (index_of (home, key))) asked.1 keys all both.1 in
        let here : is_some (index_of asked) ≡ true = subst (λ (h : List ℕ). is_some (index_of (h, asked.1)) ≡ true) (sym ((bytes_eq-Decides asked.0 home).0 both.0)) there in
        let nowhere : is_some (index_of asked) ≡ false = ap is_some none in
        cc
    by false e = refl

pub no_marks : (asked : BuiltIn) → index_of asked ≡ None → record { auto : false ≡ is_auto asked; guard : false ≡ is_guard asked; shared : false ≡ is_shared asked }
unfolding erlang_keys int_keys io_keys lists_keys guard_keys act_keys
no_marks asked none =
    let among = λ (keys : List Key) (all : list_all (λ key. is_some (index_of (codes "erlang", key))) keys ≡ true). not_among asked (codes "erlang") keys all none in
    record {
      auto = sym (ap (λ b. b && not (is_among (codes "erlang") named_keys asked)) (among erlang_keys refl));
      guard = sym (among guard_keys refl);
      shared = sym (ap (λ b. b || is_among (codes "io") io_keys asked) (among act_keys refl) ∙ not_among asked (codes "io") io_keys refl none);
    }
