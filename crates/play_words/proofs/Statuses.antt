-- The program's status, by how its command ended.
use Rattle.std.proofs.Common.{◌≡◌, ◌<◌, ◌-◌, ◌^◌, ◌⊎◌, ℕ, List, refl, sym, ◌∙◌, subst, inl, inr, arith}
use Rattle.std.specs.Prelude.{Option, Some, None, IfSome}
use Rattle.play_report.specs.Causes.{Rose}
use Rattle.schedule_check.specs.Telling.{status_of}
use Rattle.command_words.specs.Words.{Command, Schedule}
use Rattle.play_words.specs.Answers.{IsAnswer}
use Rattle.gc_play.specs.Promise.{HasItsText, WritesSome, WritesFront, Wrote}
use Rattle.gc_play.specs.Ending.{number_of_status, CommandEnds}
use Rattle.gc_play.specs.declared.status.Status.{Status}
use Rattle.gc_play.specs.declared.status.Status.TheVariants as ends
use Rattle.play_words.proofs.Promised.{refusal_is_schedule, usage_is_refusal}

not_risen : (before now : ℕ) → before < 2 ^ 64 - 1 → now ≡ before → Rose before now → ⊥
not_risen before now small same (least, rose) = grind (arith, rose)

untold : (n : ℕ) → HasItsText n → 3 < n → n < 7 → ⊥
untold n (inl low) big small = omega (arith, low, big)
untold n (inr seven) big small = omega (arith, seven, small)

module _ (reads reads_now : ℕ) (old new : Option (List ℕ)) (before now : ℕ) where
  written_at : (A : ℕ → List ℕ → Type 0) (status : Status) → CommandEnds A status reads reads_now old new before now → HasItsText (number_of_status status) → WritesSome old new (A (number_of_status status))
  written_at A ends.Done h l = h.0.0
  written_at A ends.Usage h l = h.0.0
  written_at A ends.InputFault h l = h.0.0
  written_at A ends.Full h l = h.0.0
  written_at A ends.ReadFault h l = absurd (untold 4 l (omega arith) (omega arith))
  written_at A ends.WriteFault h l = absurd (untold 5 l (omega arith) (omega arith))
  written_at A ends.Memory h l = absurd (untold 6 l (omega arith) (omega arith))
  written_at A ends.Refused h l = h.0.0

  -- a text of the status was written
  pub text_written : (A : ℕ → List ℕ → Type 0) (status : Status) (n : ℕ) → n ≡ number_of_status status → CommandEnds A status reads reads_now old new before now → HasItsText n → WritesSome old new (A n)
  text_written A status n is h =
      subst (λ (k : ℕ). HasItsText k → WritesSome old new (A k)) (sym is) (written_at A status h)

  front_at : (A : ℕ → List ℕ → Type 0) (status : Status) → CommandEnds A status reads reads_now old new before now → number_of_status status ≡ 5 → WritesFront old new (λ text. (s : ℕ) × A s text)
  front_at A ends.Done h e = absurd (omega (arith, e))
  front_at A ends.Usage h e = absurd (omega (arith, e))
  front_at A ends.InputFault h e = absurd (omega (arith, e))
  front_at A ends.Full h e = absurd (omega (arith, e))
  front_at A ends.ReadFault h e = absurd (omega (arith, e))
  front_at A ends.WriteFault h e = h.0.0
  front_at A ends.Memory h e = absurd (omega (arith, e))
  front_at A ends.Refused h e = absurd (omega (arith, e))

  -- a text of the status was written, or a prefix of one
  pub wrote : (A : ℕ → List ℕ → Type 0) (status : Status) (n : ℕ) → n ≡ number_of_status status → CommandEnds A status reads reads_now old new before now → Wrote A n old new
  wrote A status n is h = record { whole = text_written A status n is h; front = λ five. front_at A status h (sym is ∙ five) }

  stays_at : (A : ℕ → List ℕ → Type 0) (status : Status) → CommandEnds A status reads reads_now old new before now → (number_of_status status ≡ 5 → ⊥) → now ≡ before
  stays_at A ends.Done h n = h.0.1
  stays_at A ends.Usage h n = h.0.1
  stays_at A ends.InputFault h n = h.0.1
  stays_at A ends.Full h n = h.0.1
  stays_at A ends.ReadFault h n = h.1
  stays_at A ends.WriteFault h n = absurd (n refl)
  stays_at A ends.Memory h n = h.0.1
  stays_at A ends.Refused h n = h.0.1

  -- the sink's count rises with the status 5 alone
  pub count_stays : (A : ℕ → List ℕ → Type 0) (status : Status) (n : ℕ) → n ≡ number_of_status status → CommandEnds A status reads reads_now old new before now → (n ≡ 5 → ⊥) → now ≡ before
  count_stays A status n is h other = stays_at A status h (λ five. other (is ∙ five))

  module _ (asked : Option Command) (left : Option (List ℕ)) where
    -- of the command that was asked for
    pub wrote_as : (status : Status) (n : ℕ) → n ≡ number_of_status status → CommandEnds (IsAnswer asked left) status reads reads_now old new before now
        → (other : Option Command) → asked ≡ other → Wrote (IsAnswer other left) n old new
    wrote_as status n is h other same = subst (λ (a : Option Command). Wrote (IsAnswer a left) n old new) same (wrote (IsAnswer asked left) status n is h)

    -- the status 1 comes to words that ask for nothing
    pub usage_comes : (status : Status) (n : ℕ) → n ≡ number_of_status status → CommandEnds (IsAnswer asked left) status reads reads_now old new before now → n ≡ 1 → asked ≡ None
    usage_comes status n is h one =
        let some = subst (λ (k : ℕ). WritesSome old new (IsAnswer asked left k)) one (text_written (IsAnswer asked left) status n is h (inl (omega (arith, one)))) in
        usage_is_refusal asked left some.0 some.1

    -- the status 7 comes to refused schedules
    pub refused_comes : (status : Status) (n : ℕ) → n ≡ number_of_status status → CommandEnds (IsAnswer asked left) status reads reads_now old new before now → n ≡ 7
        → (asked ≡ Some Schedule) × IfSome left (λ bytes. status_of bytes ≡ 7)
    refused_comes status n is h seven =
        let some = subst (λ (k : ℕ). WritesSome old new (IsAnswer asked left k)) seven (text_written (IsAnswer asked left) status n is h (inr seven)) in
        refusal_is_schedule asked left some.0 some.1

    module _ (reads_small : reads < 2 ^ 64 - 1) (writes_small : before < 2 ^ 64 - 1) (reads_same : reads_now ≡ reads) (writes_same : now ≡ before) where
      complete_at : (status : Status) → CommandEnds (IsAnswer asked left) status reads reads_now old new before now → (number_of_status status ≡ 6) ⊎ HasItsText (number_of_status status)
      complete_at ends.Done h = inr (inl (omega arith))
      complete_at ends.Usage h = inr (inl (omega arith))
      complete_at ends.InputFault h = inr (inl (omega arith))
      complete_at ends.Full h = inr (inl (omega arith))
      complete_at ends.ReadFault h = absurd (not_risen reads reads_now reads_small reads_same h.2)
      complete_at ends.WriteFault h = absurd (not_risen before now writes_small writes_same h.0.1)
      complete_at ends.Memory h = inl refl
      complete_at ends.Refused h = inr (inr refl)

      -- if nothing failed
      pub complete : (status : Status) (n : ℕ) → n ≡ number_of_status status → CommandEnds (IsAnswer asked left) status reads reads_now old new before now → (n ≡ 6) ⊎ HasItsText n
      complete status n is h = subst (λ (k : ℕ). (k ≡ 6) ⊎ HasItsText k) (sym is) (complete_at status h)
