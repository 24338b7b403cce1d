-- The test for honest hosts tells the truth: a history passes it exactly when its hosts are honest.
-- Assumes nothing.
use Prim.Native.Nat.{ℕ, ◌≤◌}
use mathlib.Core.{Path.{◌≡◌, refl, sym, ◌∙◌, ap, subst}, Logic.{◌↔◌, inl, inr}, Bool.{Bool, true, false, ◌&&◌, ◌||◌, false≢true}, List.{List, [], ◌∷◌}}
use lib.ListN.{length}
use borrow.Author.Tests.{eqb-true, eq-eqb, leb-true, le-leb}
use Rattle.rules.{specs.Tests.{◌=?◌, ◌≤?◌, ◌implies◌}, specs.Bytes.number_at, specs.Table.{table, row_of}, specs.Module.{call_of, call_in}, specs.Cabinet.{Event, call, tick, power, reading}}
use Rattle.rules.{specs.Transfers.{History, Kind, Started, Sent, Finished, Ticked, Powered, Other}, specs.Hosts.{Carries, Uses, AnsweredTo, HonestAfter, Honest}}
use Rattle.rules.{specs.declared.Row.Row, proofs.page.Choice.{and_true, or_true}}
use Rattle.rules_demands.specs.Words.{what, answered_it, answered_to, uses_own, honest_after, honest?}
use Rattle.rules_demands.proofs.{Places.looked_at, Words.kind_is}

-- tests that are joined
both : (a b : Bool) → a ≡ true → b ≡ true → (a && b) ≡ true
both true b e f = f
both false b e f = absurd (false≢true e)

first_true : (a b : Bool) → a ≡ true → (a || b) ≡ true
first_true true b e = refl
first_true false b e = absurd (false≢true e)

implied : (a b : Bool) → (a implies b) ≡ true → a ≡ true → b ≡ true
implied true b e f = e
implied false b e f = absurd (false≢true f)

implies_when : (a b : Bool) → (a ≡ true → b ≡ true) → (a implies b) ≡ true
implies_when true b f = f refl
implies_when false b f = refl

-- a Start that answered the context to the host
answered_it_law : (host context : ℕ) (k : Kind) → answered_it host context k ≡ true → (named : ℕ) × (k ≡ Started named host context)
answered_it_law host context (Started named to given) e =
    let q = and_true (to =? host) (given =? context) e in
    (named, ap (λ (n : ℕ). Started named n given) (eqb-true to host q.0) ∙ ap (Started named host) (eqb-true given context q.1))
answered_it_law host context (Sent named sender given offset piece) e = absurd (false≢true e)
answered_it_law host context (Finished named sender given flag) e = absurd (false≢true e)
answered_it_law host context Ticked e = absurd (false≢true e)
answered_it_law host context (Powered named) e = absurd (false≢true e)
answered_it_law host context Other e = absurd (false≢true e)

answered_to_law : (host context : ℕ) (past : History) → answered_to host context past ≡ true → AnsweredTo host context past
answered_to_law host context [] e = absurd (false≢true e)
answered_to_law host context (x ∷ past) e = go (answered_it host context (what x)) refl e (answered_to_law host context past)
  where
    go : (b : Bool) → answered_it host context (what x) ≡ b → (b || answered_to host context past) ≡ true
        → (answered_to host context past ≡ true → AnsweredTo host context past) → AnsweredTo host context (x ∷ past)
    go true f q later = let a = answered_it_law host context (what x) f in inl (a.0, kind_is x ∙ a.1)
    go false f q later = inr (later q)

answered_back : (host context : ℕ) (past : History) → AnsweredTo host context past → answered_to host context past ≡ true
answered_back host context [] a = absurd a
answered_back host context (x ∷ past) (inl e) =
    first_true (answered_it host context (what x)) (answered_to host context past)
    (ap (answered_it host context) (sym (kind_is x) ∙ e.1) ∙ both (host =? host) (context =? context) (eq-eqb host host refl) (eq-eqb context context refl))
answered_back host context (x ∷ past) (inr a) =
    or_true (answered_it host context (what x)) (answered_to host context past) (answered_back host context past a)

-- a call that carries a context
module _ (test : ℕ → Bool) (request : List ℕ) where
  abbrev early : (index : ℕ) → Bool
  early index = index =? 14 || index =? 16 implies (4 ≤? length request implies test (number_at 4 0 request))

  abbrev late : (index : ℕ) → Bool
  late index = index =? 15 implies (8 ≤? length request implies test (number_at 4 4 request))

  carries_tested : (revision index context : ℕ) → (early index && late index) ≡ true → Carries (call_in revision index request) request context → test context ≡ true
  unfolding row_of
  carries_tested revision index context =
      looked_at (λ (i : ℕ) (r : Row). (early i && late i) ≡ true → Carries (call_of r.function revision request) request context → test context ≡ true)
      index table (
        no,
        (
          no,
          (
            no,
            (
              no,
              (
                no,
                (
                  λ e k. ap test k.1 ∙ implied (4 ≤? length request) (test (number_at 4 0 request)) (and_true (early 14) (late 14) e).0 (le-leb 4 (length request) k.0),
                  (
                    λ e k. ap test k.1 ∙ implied (8 ≤? length request) (test (number_at 4 4 request)) (and_true (early 15) (late 15) e).1 (le-leb 8 (length request) k.0),
                    (
                      λ e k. ap test k.1 ∙ implied (4 ≤? length request) (test (number_at 4 0 request)) (and_true (early 16) (late 16) e).0 (le-leb 4 (length request) k.0),
                      (no, (no, (no, (no, (no, (no, tt)))))),
                    ),
                  ),
                ),
              ),
            ),
          ),
        ),
      )
      (λ lacks. no)
    where
      no : {t : Bool} → t ≡ true → ⊥ → test context ≡ true
      no e k = absurd k

uses_own_law : (past : History) (event : Event) → uses_own past event ≡ true → (host context : ℕ) → Uses event host context → AnsweredTo host context past
uses_own_law past (call caller named revision index request lent) e host context u =
    subst (λ (n : ℕ). AnsweredTo n context past) (sym u.0)
    (answered_to_law caller context past (carries_tested (λ c. answered_to caller c past) request revision index context e u.1))
uses_own_law past tick e host context u = absurd u
uses_own_law past (power named) e host context u = absurd u
uses_own_law past (reading named new) e host context u = absurd u

carries_at : (revision index : ℕ) (request : List ℕ) (context at : ℕ) → Carries (call_in revision at request) request context → index ≡ at
    → Carries (call_in revision index request) request context
carries_at revision index request context at k e = subst (λ (i : ℕ). Carries (call_in revision i request) request context) (sym e) k

uses_back : (past : History) (event : Event) → ((host context : ℕ) → Uses event host context → AnsweredTo host context past) → uses_own past event ≡ true
unfolding row_of
uses_back past (call caller named revision index request lent) own =
    both (index =? 14 || index =? 16 implies (4 ≤? length request implies answered_to caller (number_at 4 0 request) past))
    (index =? 15 implies (8 ≤? length request implies answered_to caller (number_at 4 4 request) past))
    (implies_when (index =? 14 || index =? 16) (4 ≤? length request implies answered_to caller (number_at 4 0 request) past)
    (λ e. implies_when (4 ≤? length request) (answered_to caller (number_at 4 0 request) past)
    (λ l. answered_back caller (number_at 4 0 request) past (own caller (number_at 4 0 request) (refl, early_one (index =? 14) refl e (leb-true 4 (length request) l))))))
    (implies_when (index =? 15) (8 ≤? length request implies answered_to caller (number_at 4 4 request) past)
    (λ e. implies_when (8 ≤? length request) (answered_to caller (number_at 4 4 request) past)
    (λ l. answered_back caller (number_at 4 4 request) past
    (own caller (number_at 4 4 request) (refl, carries_at revision index request (number_at 4 4 request) 15 (leb-true 8 (length request) l, refl) (eqb-true index 15 e))))))
  where
    early_one : (b : Bool) → (index =? 14) ≡ b → (b || index =? 16) ≡ true → 4 ≤ length request → Carries (call_in revision index request) request (number_at 4 0 request)
    early_one true f e l = carries_at revision index request (number_at 4 0 request) 14 (l, refl) (eqb-true index 14 f)
    early_one false f e l = carries_at revision index request (number_at 4 0 request) 16 (l, refl) (eqb-true index 16 e)
uses_back past tick own = refl
uses_back past (power named) own = refl
uses_back past (reading named new) own = refl

honest_after_law : (past h : History) → honest_after past h ≡ true → HonestAfter past h
honest_after_law past [] e = tt
honest_after_law past (x ∷ h) e =
    let q = and_true (uses_own past x.event) (honest_after (x ∷ past) h) e in
    (uses_own_law past x.event q.0, honest_after_law (x ∷ past) h q.1)

honest_back : (past h : History) → HonestAfter past h → honest_after past h ≡ true
honest_back past [] a = refl
honest_back past (x ∷ h) a = both (uses_own past x.event) (honest_after (x ∷ past) h) (uses_back past x.event a.0) (honest_back (x ∷ past) h a.1)

pub checked : (h : History) → (honest? h ≡ true) ↔ Honest h
checked h = (honest_after_law [] h, honest_back [] h)
