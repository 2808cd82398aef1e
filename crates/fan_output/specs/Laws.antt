-- When several outputs may go on, and that what outputs took and printed stays so where others are read (this project's choice).
use Rattle.std.proofs.Common.{◌≡◌, ℕ, ◌||◌, Bool, true, false, List, [], ◌∷◌, ◌++◌, length, slice_get, Option, Some, None, ap, refl, sym, ◌∙◌, append_assoc}
use Rattle.std.proofs.lemmas.List.{append-nil}
use Rattle.std.proofs.lemmas.List.Folds.{list_any-append}
use Rattle.std.proofs.lemmas.Bool.{ne_eqb}
use Rattle.std.specs.List.{list_any}
use Rattle.vio.specs.declared.world.TheConstants.{ERRORS}
use Rattle.vio.specs.World.{Seen, Writing}
use Rattle.vio.specs.Calls.{Call, Take, Did, AreOn, written_by}
use Rattle.vio.proofs.CallLemmas.{written_append, written_none, on_names}
use Rattle.ring_layout.specs.declared.item.Item.{Item}
use Rattle.fan_output.specs.declared.fan.FanOutput.{FanOutput}
use Rattle.fan_output.specs.declared.sink.Sink.{Sink}
use Rattle.fan_output.specs.Ends.{Due, InOrder, IsTold}
use Rattle.fan_output.specs.Fan.{AreApart, AreNamed, Blames, FanTook, Gone, GoneNow, IsAway, Outlet, Stands, outlets_of}
use Rattle.fan_output.specs.Unwritten.{blamed_in, fails_at, first_of, first_unwritten, is_unwritten}

-- ---- what was written stays written where others are read

written_still : (reads : List ℕ) (h : ℕ) (calls more : List Call) → AreOn reads [] more → written_by h (calls ++ more) ≡ written_by h calls
written_still reads h calls more on = written_append h calls more
    ∙ ap (λ (x : List ℕ). written_by h calls ++ x) (written_none reads h more on) ∙ append-nil (written_by h calls)

-- what was told of an item was told so, whatever is called behind it
told_still : (sink : ℕ) (d : Due) (calls more : List Call) (earlier : List Item) (item : Item) →
    IsTold sink d calls earlier item → IsTold sink d (calls ++ more) earlier item
told_still sink d calls more earlier item p = record {
  before = p.before;
  said = p.said;
  after = p.after ++ more;
  are = ap (λ (x : List Call). x ++ more) p.are ∙ append_assoc (p.before ++ p.said) p.after more;
  text = p.text;
  told = p.told;
  silent = p.silent;
  message = p.message;
}

-- and so was what was printed in order
pub order_still : (sink : ℕ) (d : Due) (met : List Item) (calls more : List Call) → InOrder sink d met calls → InOrder sink d met (calls ++ more)
order_still sink d met calls more order earlier item later is told = told_still sink d calls more earlier item (order earlier item later is told)

-- ---- calls that don't write to a sink

-- calls that read alone write nothing to a sink
pub reads_away : (reads : List ℕ) (sink : ℕ) (more : List Call) → AreOn reads [] more → IsAway sink more
reads_away reads sink [] on = tt
reads_away reads sink (Take h bytes mark ∷ more) on = reads_away reads sink more on.1
reads_away reads sink (call ∷ more) on = absurd on.0

-- what is written in neither of two lists of calls isn't written in both together
pub away_append : (sink : ℕ) (xs ys : List Call) → IsAway sink xs → IsAway sink ys → IsAway sink (xs ++ ys)
away_append sink [] ys p q = q
away_append sink (Call.Write h bytes mark ∷ xs) ys p q = (p.0, away_append sink xs ys p.1 q)
away_append sink (Call.Take h bytes mark ∷ xs) ys p q = away_append sink xs ys p q
away_append sink (Call.Open name h ∷ xs) ys p q = away_append sink xs ys p q
away_append sink (Call.Create append name h empty ∷ xs) ys p q = away_append sink xs ys p q
away_append sink (Call.Refuse kind name ∷ xs) ys p q = away_append sink xs ys p q
away_append sink (Call.Lack ∷ xs) ys p q = away_append sink xs ys p q

-- and none of them is a write to it that failed
pub away_clean : (sink : ℕ) (more : List Call) → IsAway sink more → fails_at sink more ≡ false
away_clean sink [] away = refl
away_clean sink (Call.Write h bytes mark ∷ more) away = rw (ne_eqb h sink away.0) (away_clean sink more away.1)
away_clean sink (Call.Take h bytes mark ∷ more) away = away_clean sink more away
away_clean sink (Call.Open name h ∷ more) away = away_clean sink more away
away_clean sink (Call.Create append name h empty ∷ more) away = away_clean sink more away
away_clean sink (Call.Refuse kind name ∷ more) away = away_clean sink more away
away_clean sink (Call.Lack ∷ more) away = away_clean sink more away

or_false : (b : Bool) → (b || false) ≡ b
or_false true = refl
or_false false = refl

-- calls that write nothing to a sink change nothing of whether a write to it failed
pub clean_still : (sink : ℕ) (calls more : List Call) → IsAway sink more → fails_at sink (calls ++ more) ≡ fails_at sink calls
clean_still sink calls more away = list_any-append (is_unwritten sink) calls more
    ∙ ap (λ (b : Bool). fails_at sink calls || b) (away_clean sink more away) ∙ or_false (fails_at sink calls)

-- ---- an output that is gone stays so

-- where nothing is written to its sink
pub gone_still : (sink : ℕ) (d : Due) (calls more : List Call) (met : List Item) (all : Bool) → IsAway sink more →
    Gone sink d calls met all → Gone sink d (calls ++ more) met all
gone_still sink d calls more met all away g = record {
  first = g.first;
  more = g.more ++ more;
  are = ap (λ (x : List Call). x ++ more) g.are ∙ append_assoc g.first g.more more;
  away = away_append sink g.more more g.away away;
  ending = g.ending;
  done = g.done;
  last = g.last;
  rest = g.rest;
  here = g.here;
  one = g.one;
  parts = g.parts;
  whole = g.whole;
  grows = g.grows;
  ends = g.ends;
  final = g.final;
}

-- and so where it ended with the last of all items
pub gone_now_still : (sink : ℕ) (d : Due) (calls more : List Call) (done last : List Item) (all : Bool) → IsAway sink more →
    GoneNow sink d calls done last all → GoneNow sink d (calls ++ more) done last all
unfolding gone_still
gone_now_still sink d calls more done last all away p = record {
  gone = gone_still sink d calls more (done ++ last) all away p.gone;
  own_done = p.own_done;
  own_last = p.own_last;
  own_here = p.own_here;
}

-- an output stands as it did, where others are read
stands_still : (caught : Bool) (holds : List Item → Bool → List ℕ →
    Type 0) (sink : ℕ) (d : Due) (live : Bool) (calls more : List Call) (met : List Item) (all : Bool) (reads : List ℕ) →
    AreOn reads [] more → Stands caught holds sink d live calls met all → Stands caught holds sink d live (calls ++ more) met all
stands_still caught holds sink d true calls more met all reads on p = (
  p.0,
  record {
    took = record {
      early = p.1.took.early;
      late = p.1.took.late;
      parts = p.1.took.parts;
      fewer = p.1.took.fewer;
      text = written_still reads sink calls more on ∙ p.1.took.text;
      told = written_still reads ERRORS calls more on ∙ p.1.took.told;
      order = order_still sink d met calls more p.1.took.order;
    };
    none = p.1.none;
    clean = clean_still sink calls more (reads_away reads sink more on) ∙ p.1.clean;
    held = p.1.held;
  },
)
stands_still caught holds sink d false calls more met all reads on p = gone_still sink d calls more met all (reads_away reads sink more on) p

-- one that is caught up took what it printed
stands_taken : (holds : List Item → Bool → List ℕ → Type 0) (sink : ℕ) (d : Due) (live : Bool) (calls : List Call) (met : List Item) (all : Bool) →
    Stands true holds sink d live calls met all → Stands false holds sink d live calls met all
stands_taken holds sink d true calls met all p = (p.0, record { took = p.1.took; none = λ e. absurd cc; clean = p.1.clean; held = p.1.held })
stands_taken holds sink d false calls met all p = p

-- ---- the first write that failed

first_assoc : {A : Type 0} (x y z : Option A) → first_of (first_of x y) z ≡ first_of x (first_of y z)
first_assoc (Some a) y z = refl
first_assoc None y z = refl

-- the first write that failed in two lists of calls is that of the first list, or else that of the second
pub first_append : (xs ys : List Call) → first_unwritten (xs ++ ys) ≡ first_of (first_unwritten xs) (first_unwritten ys)
first_append [] ys = refl
first_append (call ∷ xs) ys = ap (λ (x : Option (List ℕ)). first_of (blamed_in call) x) (first_append xs ys)
    ∙ sym (first_assoc (blamed_in call) (first_unwritten xs) (first_unwritten ys))

-- calls that read alone write nothing
reads_blameless : (reads : List ℕ) (more : List Call) → AreOn reads [] more → first_unwritten more ≡ None
reads_blameless reads [] on = refl
reads_blameless reads (Take h bytes mark ∷ more) on = reads_blameless reads more on.1
reads_blameless reads (call ∷ more) on = absurd on.0

first_none : {A : Type 0} (x : Option A) → first_of x None ≡ x
first_none (Some a) = refl
first_none None = refl

-- behind calls none of which is a write that failed the same is blamed
pub blames_still : (outlets : List Outlet) (other : Option (List ℕ)) (place : Option ℕ) (calls more : List Call) →
    first_unwritten more ≡ None → Blames outlets other place calls → Blames outlets other place (calls ++ more)
blames_still outlets other None calls more none p = first_append calls more
    ∙ ap (λ (x : Option (List ℕ)). first_of (first_unwritten calls) x) none ∙ first_none (first_unwritten calls) ∙ p
blames_still outlets other (Some i) calls more none p = (
  p.0,
  p.1,
  first_append calls more ∙ ap (λ (x : Option (List ℕ)). first_of (first_unwritten calls) x) none
      ∙ first_none (first_unwritten calls) ∙ p.2,
)

-- ---- when they may go on

module _ {T : Type 0} (count : T → ℕ) where
  -- it may be given an item: each sink has its name and is another, and there is a text for each
  pub record CanFan (o : FanOutput T) (now : Seen) : Type 0 where
    pub apart : AreApart o.sinks.items
    pub named : AreNamed o.sinks.items now
    pub lives : length o.live.items ≡ length o.sinks.items
    pub texts : count o.texts ≡ length o.sinks.items

  -- what is read changes nothing of whether an item may be given
  pub ready_stays : (o : FanOutput T) (reads : List ℕ) (more : List Call) (s t : Seen) → CanFan o s → AreOn reads [] more → Did more s t → CanFan o t
  ready_stays o reads more s t can on did = record {
    apart = can.apart;
    named = λ i sink is. on_names reads [] more s t on did Writing sink.handle sink.name ∙ can.named i sink is;
    lives = can.lives;
    texts = can.texts;
  }

module _ {T : Type 0} (text : T → ℕ → List Item → Bool → List ℕ) (filled : T → ℕ → List Item → Bool)
    (holds : T → ℕ → List Item → Bool → List ℕ → Type 0) where
  -- it was given nothing: all are live, of which there is one, each keeps a group or more, and no text is due
  pub record IsNew (o : FanOutput T) : Type 0 where
    pub all_live : (i : ℕ) (b : Bool) → slice_get o.live.items i ≡ Some b → b ≡ true
    pub some : list_any (λ b. b) o.live.items ≡ true
    pub whole : o.unwritten ≡ None
    pub none : (i : ℕ) (s : Sink) → slice_get o.sinks.items i ≡ Some s → holds o.texts i [] false []
    pub fewer : (i : ℕ) (s : Sink) → slice_get o.sinks.items i ≡ Some s → filled o.texts i [] ≡ false
    pub no_text : (i : ℕ) (s : Sink) → slice_get o.sinks.items i ≡ Some s → text o.texts i [] false ≡ []

  -- these items were taken, from one output on until a later one; where it is caught up they were printed whole
  pub record HasTaken (caught : Bool) (start now : FanOutput T) (calls : List Call) (done : List Item) : Type 0 where
    pub sinks : now.sinks ≡ start.sinks
    pub texts : text now.texts ≡ text start.texts
    pub fills : filled now.texts ≡ filled start.texts
    pub took : FanTook caught (holds now.texts) (outlets_of (text start.texts) (filled start.texts) start.sinks.items)
        now.live.items now.unwritten calls done

  -- what was printed was taken
  pub has_taken : (start now : FanOutput T) (calls : List Call) (done : List Item) → HasTaken true start now calls done → HasTaken false start now calls done
  has_taken start now calls done p = record {
    sinks = p.sinks;
    texts = p.texts;
    fills = p.fills;
    took = record {
      lives = p.took.lives;
      each = λ i o b is live. stands_taken (holds now.texts i) o.sink o.due b calls done false (p.took.each i o b is live);
      some = p.took.some;
      told = p.took.told;
      quiet = p.took.quiet;
      blames = p.took.blames;
    };
  }

  -- and what is read changes nothing of what was taken
  pub taken_stays : (caught : Bool) (start now : FanOutput T) (calls more : List Call) (done : List Item) (reads : List ℕ) →
      HasTaken caught start now calls done → AreOn reads [] more → HasTaken caught start now (calls ++ more) done
  taken_stays caught start now calls more done reads p on = record {
    sinks = p.sinks;
    texts = p.texts;
    fills = p.fills;
    took = record {
      lives = p.took.lives;
      each = λ i o b is live. stands_still caught (holds now.texts i) o.sink o.due b calls more done false reads on (p.took.each i o b is live);
      some = p.took.some;
      told = written_still reads ERRORS calls more on ∙ p.took.told;
      quiet = clean_still ERRORS calls more (reads_away reads ERRORS more on) ∙ p.took.quiet;
      blames = blames_still (outlets_of (text start.texts) (filled start.texts) start.sinks.items) None now.unwritten
          calls more (reads_blameless reads more on) p.took.blames;
    };
  }
