-- A list of calls, one after another.
use Rattle.std.proofs.Common.{◌≡◌, ℕ, ◌+◌, ◌-◌, ◌<◌, ◌≤◌, min, List, [], ◌∷◌, ◌++◌, length, get_or, take, drop, set, sym, refl, ap, ◌∙◌, subst, subst₂, arith}
use Rattle.std.proofs.lemmas.List.{append-nil, append_assoc, length_push, length-append, length-drop, drop_more, drop-drop, drop_at, take_at, take_more, set_at}
use Rattle.session.specs.Machine.{Model, Memory}
use Rattle.session.specs.Calls.{traced}
use Rattle.session.specs.declared.places.Place.{Place}
use Rattle.session.specs.declared.places.Event.{Event}
use Rattle.replay.specs.declared.calls.Lent.{Lent}
use Rattle.replay.specs.declared.calls.Answer.{Answer}
use Rattle.replay.specs.Replays.{own, tells, left, Made, Makes, Replays, ends, makes, Loan, Replay}

module _ {P C : Type 0} (M : Model P C) where
  replays_cast : {free : ℕ} {start after : Memory P C} {cs ds : List (Lent C)} {xs ys : List (Answer C)} {es fs : List (Event C)} → cs ≡ ds → xs ≡ ys → es ≡ fs →
      Replays M free start cs xs es after → Replays M free start ds ys fs after
  replays_cast {free} {start} {after} {cs} {ds} {xs} {ys} {es} {fs} p q r h =
      subst (λ l. Replays M free start ds ys l after) r (subst₂ (λ x y. Replays M free start x y es after) p q h)

  -- what a call tells fits the records that it is lent
  pub tells_fits : {before after : Memory P C} (lent : Lent C) (rest rest' : List (Event C)) (a : Answer C) → Made M lent (traced before rest) (traced after rest') a → length rest' ≡ length rest → tells a ≤ length rest
  tells_fits lent rest rest' a made long =
      let m = length made.events in
      omega (arith, made.count, ap length made.written, length-append made.events (drop m rest), length-drop m rest)

  -- so many calls and events into the list: whatever goes on from here is a replay from the start
  pub record Sofar (start : Memory P C) (list : List (Lent C)) (before : Loan P C) (i n : ℕ) (here : Loan P C) : Type 0 where
    pub said : List (Answer C)
    pub events : List (Event C)
    pub said_count : i ≡ length said
    pub events_count : n ≡ length events
    pub said_written : here.answers ≡ said ++ drop i before.answers
    pub events_written : here.trace ≡ events ++ drop n before.trace
    pub in_trace : n ≤ length before.trace
    pub spare_stay : drop M.wiring.parts here.places ≡ drop M.wiring.parts before.places
    pub goes_on : (more : List (Lent C)) (xs : List (Answer C)) (es : List (Event C)) (after : Memory P C) →
        Replays M (length before.trace - n) (own M here.places here.now) more xs es after →
        Replays M (length before.trace) start (take i list ++ more) (said ++ xs) (events ++ es) after

  pub at_start : (list : List (Lent C)) (before : Loan P C) → Sofar (own M before.places before.now) list before 0 0 before
  at_start list before = record {
    said = [];
    events = [];
    said_count = refl;
    events_count = refl;
    said_written = refl;
    events_written = refl;
    in_trace = omega arith;
    spare_stay = refl;
    goes_on = λ more xs es after r.
        let f : length before.trace - 0 ≡ length before.trace = omega arith in
        subst (λ x. Replays M x (own M before.places before.now) more xs es after) f r;
  }

  pub at_end : (start : Memory P C) (list : List (Lent C)) (before : Loan P C) (i n k : ℕ) (here : Loan P C) → i ≡ k → k ≡ min (length list) (length before.answers) →
      Sofar start list before i n here → Replay M start list before here (record { calls = k; events = n })
  at_end start list before i n k here e is h = record {
    answers = h.said;
    events = h.events;
    as_many = is;
    replays =
        replays_cast (append-nil (take i list) ∙ ap (λ x. take x list) e) (append-nil h.said) (append-nil h.events)
        (h.goes_on [] [] [] (own M here.places here.now) ends);
    answers_count = sym e ∙ h.said_count;
    events_count = h.events_count;
    answers_written = h.said_written ∙ ap (λ x. h.said ++ drop x before.answers) e;
    events_written = h.events_written;
    spare_stay = h.spare_stay;
  }

  -- one call more, which is lent the records after those written
  pub after_call : (start : Memory P C) (list : List (Lent C)) (before : Loan P C) (i n : ℕ) (here : Loan P C) (lent : Lent C) (a : Answer C) (places : List (Place P C)) (t : C) (rest rest' trace : List (Event C)) →
      Sofar start list before i n here → i < length list → i < length before.answers → lent ≡ get_or list i lent →
      rest ≡ drop n here.trace → length rest' ≡ length rest → trace ≡ take n here.trace ++ rest' →
      Made M lent (traced (own M here.places here.now) rest) (traced (own M places t) rest') a →
      drop M.wiring.parts places ≡ drop M.wiring.parts here.places →
      Sofar start list before (i + 1) (n + tells a) (record { places = places; now = t; answers = set here.answers i a; trace = trace })
  after_call start list before i n here lent a places t rest rest' trace h in_list in_answers read is_rest long back made spare =
      let m = length made.events in
      let left_over : rest ≡ drop n before.trace = is_rest ∙ ap (drop n) h.events_written ∙ drop_at h.events (drop n before.trace) n (sym h.events_count) in
      let size : length rest ≡ length before.trace - n = ap length left_over ∙ length-drop n before.trace in
      let fits = tells_fits lent rest rest' a made long in
      record {
        said = h.said ++ a ∷ [];
        events = h.events ++ made.events;
        said_count = ap (λ x. x + 1) h.said_count ∙ sym (length_push h.said a);
        events_count = (λ j. h.events_count j + made.count j) ∙ sym (length-append h.events made.events);
        said_written =
            ap (λ l. set l i a) (h.said_written ∙ ap (λ l. h.said ++ l) (drop_more before.answers i a in_answers))
            ∙ set_at h.said _ (drop (i + 1) before.answers) a i (sym h.said_count)
            ∙ sym (append_assoc h.said (a ∷ []) (drop (i + 1) before.answers));
        events_written =
            back ∙ ap (λ l. l ++ rest') (ap (take n) h.events_written ∙ take_at h.events (drop n before.trace) n (sym h.events_count))
            ∙ ap (λ l. h.events ++ l) (made.written ∙ ap (λ l. made.events ++ drop m l) left_over ∙ ap (λ l. made.events ++ l) (drop-drop m n before.trace))
            ∙ sym (append_assoc h.events made.events (drop (n + m) before.trace))
            ∙ ap (λ x. (h.events ++ made.events) ++ drop (n + x) before.trace) (sym made.count);
        in_trace = omega (arith, fits, size, h.in_trace);
        spare_stay = spare ∙ h.spare_stay;
        goes_on = λ more xs es after r.
            let free : length before.trace - (n + tells a) ≡ (length before.trace - n) - m = omega (arith, made.count) in
            let one = makes {calls = more} {answers = xs} {events = es} (left (own M places t) made.events) (subst (λ x. Makes M x (own M here.places here.now) lent a (left (own M places t) made.events)) size made.makes_it) (subst (λ x. Replays M x (own M places t) more xs es after) free r) in
            replays_cast
            (sym (ap (λ l. l ++ more) (take_more list i lent in_list ∙ ap (λ x. take i list ++ x ∷ []) (sym read)) ∙ append_assoc (take i list) (lent ∷ []) more))
            (sym (append_assoc h.said (a ∷ []) xs)) (sym (append_assoc h.events made.events es))
            (h.goes_on (lent ∷ more) (a ∷ xs) (made.events ++ es) after one);
      }
