-- A run in the middle: what was written so far, and that the whole run is that and the rest.
use Rattle.std.specs.Prelude.{ℕ, ◌+◌, ◌-◌, ◌≤◌, ◌<◌, ◌≡◌, refl, length, drop}
use mathlib.Core.List.{List, [], ◌∷◌, ◌++◌, append_assoc, append-nil}
use Rattle.std.proofs.Common.{sym, ◌∙◌, lt-ltb, le-ltb, length-append, add-zero, zero-add}
use Rattle.std.proofs.Math.Path.{ap}
use Rattle.std.proofs.Math.Nat.{sub-zero}
use native.Mathlib.Omega.{arith}
use Rattle.tables.specs.Choice.{picked, passed}
use Rattle.wire.specs.Bytes.{part, laid}
use Rattle.wire.proofs.Laws.{laid_none, laid_behind, length_part, length_laid}
use Rattle.text.specs.Shown.{in_room, Adds}
use Rattle.lines.specs.Lines.{lines_after, Said, Gone, stopped, ahead, went, Goes}
use Rattle.lines.specs.Laws.{Lines}
use Rattle.lines.proofs.Laws.{lines_none, put_none, put_some}
use Rattle.lines.specs.Sofar.{Sofar, onward}

module _ {S : Type 0} where
  onward_none : (w : Gone S) → w ≡ onward 0 [] w
  unfolding onward
  onward_none w = ap (λ (r : ℕ). record { next = w.next; read = r; out = w.out }) (sym (zero-add w.read))

  onward_stopped : (at : ℕ) (x : List ℕ) (k : S) → onward at x (stopped k) ≡ record { next = k; read = at; out = x }
  unfolding onward stopped
  onward_stopped at x k = rw (add-zero at, append-nil x)

  onward_ahead : (at m e : ℕ) (x a : List ℕ) (w : Gone S) → at + m + 1 ≡ e → onward at x (ahead m a w) ≡ onward e (x ++ a) w
  unfolding onward ahead
  onward_ahead at m e x a w q =
      let r : at + (m + 1 + w.read) ≡ e + w.read = omega arith in
      rw (r, append_assoc x a w.out)

  module _ (said : S → List ℕ → Said S) where
    -- there is no room for what the first line writes, or there is
    full : (k : S) (l : List ℕ) (ls : List (List ℕ)) (room : ℕ) → room ≤ length (said k l).out → went said k (l ∷ ls) room ≡ stopped k
    unfolding went
    full k l ls room h = picked _ _ (lt-ltb room (length (said k l).out + 1) (omega arith))

    fits : (k : S) (l : List ℕ) (ls : List (List ℕ)) (room : ℕ) → length (said k l).out < room
        → went said k (l ∷ ls) room ≡ ahead (length l) ((said k l).out ++ 0x0A ∷ []) (went said (said k l).next ls (room - (length (said k l).out + 1)))
    unfolding went
    fits k l ls room h = passed _ _ (le-ltb room (length (said k l).out + 1) (omega arith))

    module _ (k₀ : S) (t b : List ℕ) where
      pub sofar_start : Sofar said k₀ t b k₀ 0 0 b
      sofar_start =
          record {
            written = [];
            place = omega arith;
            room = omega arith;
            count = refl;
            lies = laid_none b;
            rest = onward_none _ ∙ ap (λ (r : ℕ). onward 0 [] (went said k₀ (lines_after [] t) r)) (sym (sub-zero (length b)));
          }

      module _ (k : S) (at n : ℕ) (out : List ℕ) (s : Sofar said k₀ t b k at n out) where
        pub sofar_length : length out ≡ length b
        sofar_length = ap length s.lies ∙ length_laid b 0 s.written (omega (arith, s.count, s.room))

        stops : went said k (lines_after [] (drop at t)) (length b - n) ≡ stopped k → Goes (went said k₀ (lines_after [] t) (length b)) b out k at n
        stops e =
            let q : went said k₀ (lines_after [] t) (length b) ≡ record { next = k; read = at; out = s.written } = s.rest ∙ (ap (onward at s.written) e ∙ onward_stopped at s.written k) in
            rw q (refl, refl, s.count, s.lies)

        no_line : lines_after [] (drop at t) ≡ [] → went said k (lines_after [] (drop at t)) (length b - n) ≡ stopped k
        unfolding went
        no_line e = rw e

        -- no text is left, or no whole line
        pub sofar_end : length t ≤ at → Goes (went said k₀ (lines_after [] t) (length b)) b out k at n
        sofar_end h = stops (no_line (lines_none [] t at h))

        module _ (e : ℕ) (l : Lines t at e) where
          pub sofar_part : e ≡ length t → Goes (went said k₀ (lines_after [] t) (length b)) b out k at n
          sofar_part q = stops (no_line (l ∙ passed _ _ (le-ltb e (length t) (omega arith))))

          module _ (h : at ≤ e) (i : e < length t) where
            this : lines_after [] (drop at t) ≡ part t at e ∷ lines_after [] (drop (e + 1) t)
            this = l ∙ picked _ _ (lt-ltb e (length t) i)

            abbrev o : List ℕ
            o = (said k (part t at e)).out

            -- what it writes and LF were put behind place n where they fit, and m is the place behind them
            module _ (x : List ℕ) (m : ℕ) (a : Adds (in_room (length out - n) (o ++ 0x0A ∷ [])) out n x m) where
              pub sofar_full : m ≡ n → Goes (went said k₀ (lines_after [] t) (length b)) b x k at n
              sofar_full q =
                  let p = put_none o out n x m a q in
                  rw p.1
                  (stops (ap (λ (ls : List (List ℕ)). went said k ls (length b - n)) this ∙ full k (part t at e) (lines_after [] (drop (e + 1) t)) (length b - n) (omega (arith, sofar_length, p.0))))

              pub sofar_next : (m ≡ n → ⊥) → Sofar said k₀ t b (said k (part t at e)).next (e + 1) m x
              sofar_next q =
                  let p = put_some o out n x m a q in
                  let d = (said k (part t at e)).next in
                  let ls = lines_after [] (drop (e + 1) t) in
                  let z = sofar_length in
                  let c = s.count in
                  let v = s.room in
                  let g = length-append o (0x0A ∷ []) in
                  let u = p.1.1 in
                  let j = length_part t at e (omega arith) in
                  let y = laid_behind b s.written (o ++ 0x0A ∷ []) in
                  let w : length b - n - (length o + 1) ≡ length b - m = omega (arith, p.0) in
                  record {
                    written = s.written ++ (o ++ 0x0A ∷ []);
                    place = omega arith;
                    room = omega (arith, p.0);
                    count = simp length-append (omega arith);
                    lies = p.1.0 ∙ (ap (λ (l : List ℕ). laid l n (o ++ 0x0A ∷ [])) s.lies ∙ (ap (λ (i : ℕ). laid (laid b 0 s.written) i (o ++ 0x0A ∷ [])) c ∙ y));
                    rest =
                        s.rest
                        ∙ (ap (onward at s.written) (ap (λ (ms : List (List ℕ)). went said k ms (length b - n)) this ∙ fits k (part t at e) ls (length b - n) (omega (arith, p.0)))
                        ∙ (onward_ahead at (length (part t at e)) (e + 1) s.written (o ++ 0x0A ∷ []) (went said d ls (length b - n - (length o + 1))) (omega arith)
                        ∙ ap (λ (r : ℕ). onward (e + 1) (s.written ++ (o ++ 0x0A ∷ [])) (went said d ls r)) w));
                  }

-- the same by another name of the state
pub sofar_as : {S : Type 0} (said : S → List ℕ → Said S) (k₀ : S) (t b : List ℕ) (d k : S) (at n : ℕ) (x : List ℕ) → d ≡ k → Sofar said k₀ t b k at n x → Sofar said k₀ t b d at n x
sofar_as said k₀ t b d k at n x e s = rw e s
