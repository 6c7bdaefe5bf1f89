-- A move over a host, pair by pair.
use Rattle.std.specs.Prelude.{Option, Some, None, Result, Ok, Err}
use Rattle.std.proofs.Common.{◌≡◌, ◌+◌, ℕ, List, [], ◌∷◌, ◌++◌, refl, sym, ap, ◌∙◌, inl, inr, append_assoc, append-nil}
use Rattle.std.proofs.lemmas.List.{length-append}
use Rattle.booth_host.specs.declared.entry.Entry.{Entry}
use Rattle.booth_host.specs.declared.entry.Entry.TheVariants.{Next, Now}
use Rattle.booth_host.specs.declared.host.Arrival.{Arrival}
use Rattle.booth_host.specs.declared.host.Failed.{Failed}
use Rattle.booth_host.specs.Past.{GrewBy, GrewSome}
use Rattle.booth_host.proofs.PastLemmas.{one_more, some_joined, some_of, some_weaker, then_some}
use Rattle.booth_talk.specs.Waiting.{Pair as CallPair, calls_of}
use Rattle.booth_move.specs.declared.carrying.Moving.{Moving}
use Rattle.booth_move.specs.declared.carrying.Sending.{Sending}
use Rattle.booth_move.specs.declared.deeds.MoveDeed.{MoveDeed}
use Rattle.booth_move.specs.declared.deeds.MoveDeed.TheVariants as deeds
use Rattle.booth_move.specs.declared.deeds.MoveEnd.{MoveEnd}
use Rattle.booth_move.specs.declared.stage.Stage.{Stage}
use Rattle.booth_move.specs.Bound.{Lessens}
use Rattle.booth_move.specs.Carrying.{Goes, IsCarried, IsPair, IsSent, IsStuck, IsUnderway, calls_from, calls_so_far, end_of, sends, sent_for, stage_from, stage_so_far, step_at}
use Rattle.booth_move.specs.Deeds.{opens}

-- ---- one pair

pub is_end : (deed : MoveDeed) (end : MoveEnd) → Some end ≡ end_of deed → deed ≡ deeds.End end
is_end (deeds.End other) end is = let e : other ≡ end = cc in ap (λ (e : MoveEnd). deeds.End e) e
is_end deeds.Nothing end is = absurd cc
is_end (deeds.Revoke to number) end is = absurd cc
is_end (deeds.Grant number) end is = absurd cc

pub goes_on : (old new : Stage) (deed : MoveDeed) → None ≡ end_of deed → Lessens old deed new → Goes old (Ok None) new
goes_on old new (deeds.End end) none less = absurd cc
goes_on old new deeds.Nothing none less = less
goes_on old new (deeds.Revoke to number) none less = less
goes_on old new (deeds.Grant number) none less = less

sent_ok : (moving : Moving) (start : ℕ) (what : Option Sending) (entries : List Entry) → IsSent moving start what (Ok tt) entries →
    entries ≡ sends moving start what
sent_ok moving start None entries is = is
sent_ok moving start (Some s) entries is = is

abbrev pair_of : Result Arrival Failed → List ℕ → ℕ → CallPair
pair_of answer bytes reading = record { answer = answer; bytes = bytes; reading = reading }

-- the two calls of a pair
two_calls : {answer : Result Arrival Failed} {bytes : List ℕ} {reading : ℕ} {a b c : Option (List Entry)} →
    GrewBy a b (Next 100 answer bytes ∷ []) → GrewBy b c (Now reading ∷ []) → GrewBy a c (calls_of (pair_of answer bytes reading))
two_calls next now = one_more next now

pub last_pair : (moving : Moving) (old new : Stage) (end : MoveEnd) {answer : Result Arrival Failed} {bytes : List ℕ} {reading : ℕ}
    {a b c : Option (List Entry)} → GrewBy a b (Next 100 answer bytes ∷ []) → GrewBy b c (Now reading ∷ []) →
    (step_at moving old (pair_of answer bytes reading)).deed ≡ deeds.End end → GrewSome (IsPair moving old new (Ok (Some end))) a c
last_pair moving old new end {answer} {bytes} {reading} next now is =
    some_of (IsPair moving old new (Ok (Some end))) (two_calls next now) (record { p = pair_of answer bytes reading; is = is; whole = refl })

pub gone_on : (moving : Moving) (old new : Stage) (deed : MoveDeed) {answer : Result Arrival Failed} {bytes : List ℕ} {reading : ℕ}
    {a b c d : Option (List Entry)} → GrewBy a b (Next 100 answer bytes ∷ []) → GrewBy b c (Now reading ∷ []) →
    deed ≡ (step_at moving old (pair_of answer bytes reading)).deed → new ≡ (step_at moving old (pair_of answer bytes reading)).stage →
    GrewSome (IsSent moving reading (sent_for moving deed) (Ok tt)) c d → GrewSome (IsPair moving old new (Ok None)) a d
gone_on moving old new deed {answer} {bytes} {reading} next now is stands sent =
    let p : CallPair = pair_of answer bytes reading in
    then_some (IsSent moving reading (sent_for moving deed) (Ok tt)) (IsPair moving old new (Ok None)) (two_calls next now)
    (λ ys h. record {
      p = p;
      stands = stands;
      whole = ap (λ (zs : List Entry). calls_of p ++ zs)
          (sent_ok moving reading (sent_for moving deed) ys h ∙ ap (λ (d : MoveDeed). sends moving reading (sent_for moving d)) is);
    }) sent

stuck_with : (moving : Moving) (old : Stage) (failed : Failed) (p : CallPair) (what : Option Sending) (entries : List Entry) →
    sent_for moving (step_at moving old p).deed ≡ what → IsSent moving p.reading what (Err failed) entries →
    IsStuck moving old failed (calls_of p ++ entries)
stuck_with moving old failed p None entries is sent = absurd sent
stuck_with moving old failed p (Some s) entries is sent =
    record { p = p; s = s; is = is; whole = ap (λ (zs : List Entry). calls_of p ++ zs) sent }

pub stuck : (moving : Moving) (old new : Stage) (deed : MoveDeed) (failed : Failed) {answer : Result Arrival Failed} {bytes : List ℕ} {reading : ℕ}
    {a b c d : Option (List Entry)} → GrewBy a b (Next 100 answer bytes ∷ []) → GrewBy b c (Now reading ∷ []) →
    deed ≡ (step_at moving old (pair_of answer bytes reading)).deed →
    GrewSome (IsSent moving reading (sent_for moving deed) (Err failed)) c d → GrewSome (IsPair moving old new (Err failed)) a d
stuck moving old new deed failed {answer} {bytes} {reading} next now is sent =
    let p : CallPair = pair_of answer bytes reading in
    then_some (IsSent moving reading (sent_for moving deed) (Err failed)) (IsPair moving old new (Err failed)) (two_calls next now)
    (λ ys h. stuck_with moving old failed p (sent_for moving deed) ys (ap (λ (d : MoveDeed). sent_for moving d) (sym is)) h) sent

-- ---- pair after pair

calls_push : (moving : Moving) (stage : Stage) (ps : List CallPair) (p : CallPair) →
    calls_from moving stage (ps ++ p ∷ [])
    ≡ calls_from moving stage ps ++ (calls_of p ++ sends moving p.reading (sent_for moving (step_at moving (stage_from moving stage ps) p).deed))
unfolding calls_from stage_from
calls_push moving stage [] p = append-nil (calls_of p ++ sends moving p.reading (sent_for moving (step_at moving stage p).deed))
calls_push moving stage (q ∷ ps) p =
    let these : List Entry = calls_of q ++ sends moving q.reading (sent_for moving (step_at moving stage q).deed) in
    ap (λ (es : List Entry). these ++ es) (calls_push moving (step_at moving stage q).stage ps p)
    ∙ sym (append_assoc these (calls_from moving (step_at moving stage q).stage ps) _)

stage_push : (moving : Moving) (stage : Stage) (ps : List CallPair) (p : CallPair) →
    stage_from moving stage (ps ++ p ∷ []) ≡ (step_at moving (stage_from moving stage ps) p).stage
unfolding stage_from
stage_push moving stage [] p = refl
stage_push moving stage (q ∷ ps) p = stage_push moving (step_at moving stage q).stage ps p

so_far_push : (moving : Moving) (start : ℕ) (ps : List CallPair) (p : CallPair) →
    calls_so_far moving start (ps ++ p ∷ [])
    ≡ calls_so_far moving start ps ++ (calls_of p ++ sends moving p.reading (sent_for moving (step_at moving (stage_so_far moving start ps) p).deed))
so_far_push moving start ps p =
    ap (λ (es : List Entry). sends moving start (sent_for moving (opens start).deed) ++ es) (calls_push moving (opens start).stage ps p)
    ∙ sym (append_assoc (sends moving start (sent_for moving (opens start).deed)) (calls_from moving (opens start).stage ps) _)

-- the first request was sent
begun_with : (moving : Moving) (start : ℕ) (first : MoveDeed) (stage : Stage) (entries : List Entry) → first ≡ (opens start).deed →
    stage ≡ (opens start).stage → IsSent moving start (sent_for moving first) (Ok tt) entries → IsUnderway moving start stage 0 entries
unfolding calls_from stage_from
begun_with moving start first stage entries is stands sent = record {
  pairs = [];
  number = refl;
  stands = sym stands;
  whole = sent_ok moving start (sent_for moving first) entries sent
      ∙ ap (λ (d : MoveDeed). sends moving start (sent_for moving d)) is ∙ sym (append-nil (sends moving start (sent_for moving (opens start).deed)));
}

pub begun : (moving : Moving) (start : ℕ) (first : MoveDeed) (stage : Stage) {a b : Option (List Entry)} → first ≡ (opens start).deed →
    stage ≡ (opens start).stage → GrewSome (IsSent moving start (sent_for moving first) (Ok tt)) a b → GrewSome (IsUnderway moving start stage 0) a b
begun moving start first stage is stands sent =
    some_weaker (IsSent moving start (sent_for moving first) (Ok tt)) (IsUnderway moving start stage 0)
    (λ es h. begun_with moving start first stage es is stands h) sent

-- it was not
unopened_with : (moving : Moving) (start : ℕ) (failed : Failed) (what : Option Sending) (entries : List Entry) →
    sent_for moving (opens start).deed ≡ what → IsSent moving start what (Err failed) entries → IsCarried moving start (Err failed) entries
unopened_with moving start failed None entries is sent = absurd sent
unopened_with moving start failed (Some s) entries is sent = inl (record { s = s; is = is; whole = sent })

pub unopened : (moving : Moving) (start : ℕ) (failed : Failed) (first : MoveDeed) {a b : Option (List Entry)} → first ≡ (opens start).deed →
    GrewSome (IsSent moving start (sent_for moving first) (Err failed)) a b → GrewSome (IsCarried moving start (Err failed)) a b
unopened moving start failed first is sent =
    some_weaker (IsSent moving start (sent_for moving first) (Err failed)) (IsCarried moving start (Err failed))
    (λ es h. unopened_with moving start failed (sent_for moving first) es (ap (λ (d : MoveDeed). sent_for moving d) (sym is)) h) sent

-- one more pair
pub one_more_pair : (moving : Moving) (start n : ℕ) (old new : Stage) {a b c : Option (List Entry)} → GrewSome (IsUnderway moving start old n) a b →
    GrewSome (IsPair moving old new (Ok None)) b c → GrewSome (IsUnderway moving start new (n + 1)) a c
one_more_pair moving start n old new under pair =
    some_joined (IsUnderway moving start old n) (IsPair moving old new (Ok None)) (IsUnderway moving start new (n + 1))
    (λ xs ys u g. record {
      pairs = u.pairs ++ g.p ∷ [];
      number = length-append u.pairs (g.p ∷ []) ∙ ap (λ (k : ℕ). k + 1) u.number;
      stands = stage_push moving (opens start).stage u.pairs g.p
          ∙ ap (λ (s : Stage). (step_at moving s g.p).stage) u.stands ∙ sym g.stands;
      whole = ap (λ (es : List Entry). es ++ ys) u.whole
          ∙ ap (λ (es : List Entry). calls_so_far moving start u.pairs ++ es)
          (g.whole ∙ ap (λ (s : Stage). calls_of g.p ++ sends moving g.p.reading (sent_for moving (step_at moving s g.p).deed)) (sym u.stands))
          ∙ sym (so_far_push moving start u.pairs g.p);
    }) under pair

-- the last pair
pub finished : (moving : Moving) (start n : ℕ) (old new : Stage) (end : MoveEnd) {a b c : Option (List Entry)} →
    GrewSome (IsUnderway moving start old n) a b → GrewSome (IsPair moving old new (Ok (Some end))) b c → GrewSome (IsCarried moving start (Ok end)) a c
finished moving start n old new end under pair =
    some_joined (IsUnderway moving start old n) (IsPair moving old new (Ok (Some end))) (IsCarried moving start (Ok end))
    (λ xs ys u g. record {
      pairs = u.pairs;
      last = g.p;
      whole = ap (λ (es : List Entry). es ++ ys) u.whole ∙ ap (λ (es : List Entry). calls_so_far moving start u.pairs ++ es) g.whole;
      is = ap (λ (s : Stage). (step_at moving s g.p).deed) u.stands ∙ g.is;
    }) under pair

-- a request that follows a pair was not sent
pub unsent : (moving : Moving) (start n : ℕ) (old new : Stage) (failed : Failed) {a b c : Option (List Entry)} →
    GrewSome (IsUnderway moving start old n) a b → GrewSome (IsPair moving old new (Err failed)) b c → GrewSome (IsCarried moving start (Err failed)) a c
unsent moving start n old new failed under pair =
    some_joined (IsUnderway moving start old n) (IsPair moving old new (Err failed)) (IsCarried moving start (Err failed))
    (λ xs ys u g. inr (record {
      pairs = u.pairs;
      last = g.p;
      s = g.s;
      is = ap (λ (s : Stage). sent_for moving (step_at moving s g.p).deed) u.stands ∙ g.is;
      whole = ap (λ (es : List Entry). es ++ ys) u.whole ∙ ap (λ (es : List Entry). calls_so_far moving start u.pairs ++ es) g.whole;
    })) under pair
