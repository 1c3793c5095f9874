-- `find` at a table of any size. What a reference to the table holds is what one to its array holds, element by
-- element, and that is what the slice of the names holds that is passed to `find_in`. The answer is passed on.
use Rattle.std.proofs.Common.{◌≡◌, ℕ, ◌+◌, ◌*◌, ◌^◌, ◌<◌, List, [], ◌∷◌, length, refl, sym, ap, subst, arith}
use seplogic.Ra.Ura.{Ura}
use mir.Syntax.{Args, Fn, named, static, w64, a_number}
use mir.MapTy.{inst_fn}
use mir.Val.{Val, Fits, vptr}
use base.Logic.{SProp, ent, id⊢}
use base.Fml.{Lft, Share, ftrue, flft}
use prog.Align.{up-ge}
use prog.Memory.{up}
use prog.Wp.{WpFn, Tables}
use types.Logic.{Logic}
use contract.BorrowLft.{◌⊑◌}
use contract.Lifetimes.{AllOutlive}
use contract.Monad.{fact}
use contract.Running.{Running, tables, tables_of}
use prog.Model.{Model}
use prog.Wired.{Wired}
use sound.WpLaws.{WpFn-mono}
use types.Kit.{‵, ◌⊛◌, raw, some, later, ◌$◌, ◌∵◌, !, qed, by, move, keep, use1, use2, feq_l, drop, split, split3, join, pick, await, fsplit, fjoin, feq_i, flt_i, suffices, done}
use types.Part.{agg}
use types.Run.{stop, fld, addr, num_lit, and_then, no_more, returns, enter}
use types.ByLocal.{alloc_all, pass_all, free_all, look_at, get, through, sets, lands_as}
use denote.Builtin.{RefOf, SliceRefOf, u8, usize}
use denote.Exit.{yes}
use denote.Opens.{unhide, hide}
use denote.Param.Laws.{Laws, of_field}
use denote.Param.Shared.{copy_shared}
use denote.Struct.Field.{usize-field}
use denote.Struct.Laws.{usize-laws, usize-copy}
use denote.Param.{param, number, layouts}
use denote.RattleType.{RattleType, owns}
use denote.Ref.{Bor, ShrRef, shr_vals, shr_Tells}
use denote.Signature.{plain}
use denote.Slice.{ShrSlice, Room, slice_val, shr_slice_vals, shr_slice_Tells}
use denote.Steps.{nothing, heard, peeks}
use denote.Laws.{Is, shows}
use denote.Triple.Call.{calls_at}
use denote.Triple.Clauses.{Clauses, Ended, closing, lasts}
use denote.Triple.Entry.{on_entry}
use denote.Triple.Spec.{Meets, triple_of}
use denote.Triple.Table.{entered, framed}
use denote.Triple.Walked.{says, Stays, stay_dropped, walk_of, ends_at, walked, Goes-dropped, walk_Meets}
use Rattle.std.specs.contracts.option.Option.{the_row as OptionOf}
use Rattle.std.specs.declared.option.Option.{Option}
use Rattle.std.proofs.option.Option.TheLaws.{the_row_laws as option_laws}
use Rattle.std.specs.Prelude.{position, bytes_eq}
use Rattle.pnml_grammar.specs.contracts.names.Names as Names
use Rattle.pnml_grammar.specs.contracts.names.find as F
use Rattle.pnml_grammar.specs.contracts.names.find.Key.{name as #self}
use Rattle.pnml_grammar.proofs.names.find.Statement as stated
use Rattle.pnml_grammar.proofs.names.find.Code as code
use Rattle.pnml_grammar.specs.contracts.names.find_in as G
use Rattle.pnml_grammar.proofs.names.find_in.Met.{met}
use Rattle.pnml_grammar.proofs.names.find_in.Symbol as called

module _ (n : ℕ) where
  abbrev args : Args
  args = layouts (a_number ∷ []) (number n, tt)

  abbrev function : Fn
  function = inst_fn args code.function

  abbrev Table : RattleType
  Table = Names.the_row (param 0 (number n))

  abbrev ended : Ended
  ended = F.ended (number n)

  abbrev stayed : Stays ended.signature.params ended.kept
  stayed = (stay_dropped (RefOf (0 ∷ []) tt (plain (λ _. Table)) (λ _. tt)) yes, (stay_dropped (SliceRefOf (1 ∷ []) tt (plain (λ _. u8)) (λ _. tt)) yes, tt))

-- a name of a table
abbrev Name : RattleType
Name = ShrSlice static [] u8

count_laws : Laws usize
count_laws = of_field usize-field usize-laws refl (copy_shared usize-field usize-copy)

module _ (n : ℕ) {M : Type 1} {𝓤 : Ura M} (𝓛 : Logic 𝓤) (𝓜 : Model 𝓤 𝓛.H) (𝓡 : Running 𝓤 𝓛.H 𝓜) (wired : Wired 𝓡.env called.code) where
  open 𝓛 use {H}

  abbrev 𝓣 : Tables 𝓤 H
  𝓣 = tables_of 𝓤 H 𝓜 (tables 𝓤 H 𝓜 𝓡 𝓡.env)

  abbrev clauses : Clauses 𝓤 (ended n)
  clauses = F.clauses (number n) 𝓛 𝓜.mem 𝓡.returns

  module _ (κ κ₁ κN : Lft) (q q₁ qN : Share) (bd : AllOutlive 3 (ended n).signature.outlives (κ, (κ₁, (κN, tt)))) (x : Bor (Table n).Denot) (y : Bor (List ℕ)) where
    abbrev bound : (walk_of 𝓛 (ended n) (stayed n) clauses).Ghost
    bound = (((κ, (κ₁, (κN, tt))), (q, (q₁, (qN, tt))), bd, (x, (y, tt)), (shr_vals x, (shr_slice_vals y, tt))), tt)

    abbrev Post : Val → SProp 𝓤
    Post = (walk_of 𝓛 (ended n) (stayed n) clauses).post bound

    abbrev names : Bor (List (Bor (List ℕ)))
    names = record { ref_ptr = (x.ref_ptr.0, x.ref_ptr.1 + 0); now = x.now.names }

    walk : Fits w64 n → Fits w64 (length y.now) → Room Name n →
        ent 𝓤 (on_entry 𝓛 (ended n).signature (κ, (κ₁, (κN, tt))) (q, (q₁, (qN, tt))) (x, (y, tt)) (shr_vals x, (shr_slice_vals y, tt)))
        (WpFn 𝓤 H 𝓣.C 𝓣.Λ (function n) (vptr x.ref_ptr.0 x.ref_ptr.1 ∷ slice_val y.ref_ptr (length y.now) ∷ []) Post)
    unfolding tables_of
    walk fits short room =
        let T = triple_of 𝓛 G.signature (G.spec 𝓛 𝓜.mem 𝓡.returns) in
        let z : T.Ghost = (((κ, (κ₁, tt)), (q, (q₁, tt)), tt, (names, (y, tt)), (slice_val names.ref_ptr n ∷ [], (shr_slice_vals y, tt))), tt) in
        qed 𝓛 ((‵ (flft κ q) ⊛ ‵ (flft κ₁ q₁) ⊛ ‵ (flft κN qN) ⊛ ‵ ftrue) ∷ ‵ (owns (ShrRef (named 0) κ (Table n) ∷ ShrSlice (named 1) κ₁ u8 ∷ []) (x, (y, tt)) (shr_vals x, (shr_slice_vals y, tt))) ∷ []) ∵
        enter ! 𝓣.C 𝓣.Λ (function n) (vptr x.ref_ptr.0 x.ref_ptr.1 ∷ slice_val y.ref_ptr (length y.now) ∷ []) Post $
        alloc_all ! (λ l. pass_all ! refl ((tt, tt), ((tt, (tt, (short, tt))), tt)) $
        sets ! (addr ! (through ! refl (fld ! refl (stop !)))) refl (tt, tt) $
        sets ! (agg ! (and_then ! (get ! refl) (and_then ! (num_lit ! fits) (no_more !)))) refl (tt, (tt, (fits, tt))) $
        move ! (1 ∷ []) $ fsplit ! $ fsplit ! $ drop ! $ unhide ! $
        fsplit ! $ fsplit ! $ fsplit ! $ feq_l ! (λ many.
        -- [what the array holds; nothing; the space after it; the name; the tokens; the locals]
        move ! (1 ∷ []) $ drop ! $ move ! (1 ∷ []) $ drop ! $ hide ! $
        flt_i ! (length x.now.names * 16) (2 ^ 63) (subst (λ (k : ℕ). k * 16 < 2 ^ 63) (sym many) room.1) $
        flt_i ! (length x.now.names) (2 ^ 64) (subst (λ (k : ℕ). k < 2 ^ 64) (sym many) room.0) $ fjoin ! $
        feq_i ! (List Val) (slice_val names.ref_ptr n ∷ []) (shr_slice_vals names) (ap (λ (k : ℕ). slice_val names.ref_ptr k ∷ []) (sym many)) $ fjoin ! $ fjoin ! $ fjoin ! $
        -- [the arguments; the tokens; the locals]
        move ! (1 ∷ []) $ split3 ! $ move ! (2 ∷ []) $ split ! $
        move ! (3 ∷ 1 ∷ []) $ join ! $ move ! (2 ∷ 0 ∷ []) $ join ! $ move ! (0 ∷ 2 ∷ []) $ join ! $ nothing ! $ move ! (1 ∷ 0 ∷ []) $
        use2 𝓛 (raw (T.pre z)) (id⊢ 𝓤 _) $
        calls_at ! (framed 𝓤 𝓛.H 𝓜 (tables 𝓤 𝓛.H 𝓜 𝓡 𝓡.env)) T (met 𝓤 𝓛 𝓜 𝓡 wired) z (and_then ! (get ! refl) (and_then ! (get ! refl) (no_more !))) (λ v.
        use1 𝓛 (later (some (λ (r : Option ℕ). ((‵ (flft κ q) ⊛ ‵ (flft κ₁ q₁) ⊛ ‵ ftrue) ⊛ ‵ ((OptionOf usize).own_val r (v ∷ []))) ⊛
        some (λ (ws : Unit {0} × (Unit {0} × Unit {0})). ‵ (lasts G.ended (κ, (κ₁, tt)) (names, (y, tt)) ws) ⊛ raw (fact 𝓤 (r ≡ position (λ other. bytes_eq other.now y.now) x.now.names)))))) (id⊢ 𝓤 _) $
        await ! tt $ pick ! (λ r. split ! $ split ! $ move ! (2 ∷ []) $ pick ! (λ ws. split ! $ drop ! $ heard ! _ (λ answer.
        -- [the tokens; the answer; the other token; the locals]
        move ! (1 ∷ []) $ peeks ! (OptionOf usize) (Is (OptionOf usize)) (shows 𝓛 (OptionOf usize)) r (v ∷ []) (λ is.
        lands_as ! refl refl (((option_laws usize count_laws).lawful 𝓛).typed r (v ∷ []) is).0 $
        returns ! (look_at ! 0 refl) $ free_all ! refl $
        suffices ! _ (ends_at 𝓛 (ended n) (stayed n) clauses bound v r (tt, (tt, tt)) (tt, (tt, tt))) $ says ! answer $
        keep ! (1 ∷ 2 ∷ 0 ∷ []) $ split3 ! $ move ! (3 ∷ 2 ∷ []) $ join ! $ move ! (2 ∷ 0 ∷ []) $ join ! $ move ! (1 ∷ 0 ∷ []) $ join ! $
        nothing ! $ nothing ! $ join ! $ nothing ! $ join ! $ move ! (1 ∷ 0 ∷ []) $ done !)))))))

  meets : Fits w64 n → Meets 𝓛 (ended n).signature (WpFn 𝓤 H 𝓣.C 𝓣.Λ (function n)) (closing 𝓛 (ended n) clauses)
  meets fits =
      walk_Meets 𝓛 (ended n) (stayed n)
      (Goes-dropped 𝓛 3 (RefOf (0 ∷ []) tt (plain (λ _. Table n)) (λ _. tt)) yes (λ κs x f. refl), (Goes-dropped 𝓛 3 (SliceRefOf (1 ∷ []) tt (plain (λ _. u8)) (λ _. tt)) yes (λ κs x f. refl), tt))
      clauses (WpFn 𝓤 H 𝓣.C 𝓣.Λ (function n)) (WpFn-mono 𝓤 H 𝓛.laws 𝓣 (function n))
      (walked 𝓛 (ended n) (stayed n) clauses (WpFn 𝓤 H 𝓣.C 𝓣.Λ (function n)) (λ κs. (shr_vals, (shr_slice_vals, tt))) (λ κs. (shr_Tells (named 0) κs.0 (Table n), (shr_slice_Tells (named 1) κs.1.0 u8, tt)))
      (λ κs qs bounds a g are.
      let On : SProp 𝓤 = on_entry 𝓛 (ended n).signature κs qs a (shr_vals a.0, (shr_slice_vals a.1.0, tt)) in
      qed 𝓛 (raw On ∷ (raw (fact 𝓤 (κs.1.1.0 ⊑ [])) ⊛ raw (fact 𝓤 (up 8 (0 + n * 16) < 2 ^ 63)) ⊛ ‵ ftrue) ∷ []) ∵
      move ! (1 ∷ []) $ split3 ! $ drop ! $ heard ! _ (λ small. drop ! $
      let bytes : n * 16 < 2 ^ 63 = omega (arith, up-ge 8 (0 + n * 16), small) in
      by ! (walk κs.0 κs.1.0 κs.1.1.0 qs.0 qs.1.0 qs.1.1.0 bounds a.0 a.1.0 fits (record { fits = are.1.0.0.1.0 }) (fits.fits, bytes)))))

pub find_spec : {M : Type 1} → stated.statement M
unfolding tables_of
find_spec 𝓤 𝓛 𝓜 𝓡 wired n fits =
    entered 𝓤 𝓛.H (triple_of 𝓛 (ended n).signature (F.spec (number n) 𝓛 𝓜.mem 𝓡.returns)) (𝓣 n 𝓛 𝓜 𝓡 (code.calls-pnml_grammar::names::find_in 𝓡.env wired)).C (𝓣 n 𝓛 𝓜 𝓡 (code.calls-pnml_grammar::names::find_in 𝓡.env wired)).Λ
    (#self (args n)) (function n) (code.unfolded 𝓤 𝓛.H 𝓜 𝓡 wired (number n, tt))
    (meets n 𝓛 𝓜 𝓡 (code.calls-pnml_grammar::names::find_in 𝓡.env wired) fits)
