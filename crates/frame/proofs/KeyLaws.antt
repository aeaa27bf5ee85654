-- The keys of a value rise (number 5, and 3 in a default) exactly where, in each Map of it, every key is below every later one.
use mathlib.Core.Logic.{◌↔◌}
use lib.Dec.{T}
use lib.Ieee.Fits.{and_l, and_r, and_i}
use Rattle.text.specs.Text.{Text}
use Rattle.text.specs.Order.{Below}
use Rattle.text.proofs.OrderLaws.{less→Below, Below→less, Below-trans}
use Rattle.frame.specs.Tree.{Value, Values, Entries, no_items, item, no_entries, entry}
use Rattle.frame.specs.Sound.{past_key, keys_rise, item_keys_rise, entry_keys_rise, rising}
use Rattle.frame.specs.Faults.{BelowAll, none_left, one_more, Rises, no_keys, key, ItemOf, first_item, later_item, EntryOf, first_entry, later_entry, MapIn, itself, in_item, in_map, in_record, in_union}

below_all : {k n : Text} {es : Entries} → Below k n → BelowAll n es → BelowAll k es
below_all b none_left = none_left
below_all b (one_more c r) = one_more (Below-trans b c) (below_all b r)

pub rising→Rises : (es : Entries) → T (rising es) → Rises es
unfolding keys_rise past_key
rising→Rises no_entries h = no_keys
rising→Rises (entry n v es) h = key (past es (and_l (past_key n es) (rising es) h) (rising→Rises es (and_r (past_key n es) (rising es) h))) (rising→Rises es (and_r (past_key n es) (rising es) h))
  where
    past : (es : Entries) → T (past_key n es) → Rises es → BelowAll n es
    past no_entries h r = none_left
    past (entry m w fs) h (key b r) = let c : Below n m = less→Below n m h in one_more c (below_all c b)

pub Rises→rising : {es : Entries} → Rises es → T (rising es)
unfolding keys_rise past_key
Rises→rising no_keys = tt
Rises→rising (key {n} {v} {es} b r) = and_i (past_key n es) (rising es) (past es b) (Rises→rising r)
  where
    past : (es : Entries) → BelowAll n es → T (past_key n es)
    past no_entries b = tt
    past (entry m w fs) (one_more c b) = Below→less c

item-keys : {v : Value} {vs : Values} → ItemOf v vs → T (item_keys_rise vs) → T (keys_rise v)
unfolding keys_rise
item-keys (first_item {v} {vs}) h = and_l (keys_rise v) (item_keys_rise vs) h
item-keys (later_item {v} {w} {vs} i) h = item-keys i (and_r (keys_rise w) (item_keys_rise vs) h)

entry-keys : {v : Value} {es : Entries} → EntryOf v es → T (entry_keys_rise es) → T (keys_rise v)
unfolding keys_rise
entry-keys (first_entry {n} {v} {es}) h = and_l (keys_rise v) (entry_keys_rise es) h
entry-keys (later_entry {n} {v} {w} {es} i) h = entry-keys i (and_r (keys_rise w) (entry_keys_rise es) h)

keys-there : {es : Entries} {v : Value} → MapIn es v → T (keys_rise v) → Rises es
unfolding keys_rise
keys-there (itself {es}) h = rising→Rises es (and_l (rising es) (entry_keys_rise es) h)
keys-there (in_item i m) h = keys-there m (item-keys i h)
keys-there (in_map {es} {fs} i m) h = keys-there m (entry-keys i (and_r (rising fs) (entry_keys_rise fs) h))
keys-there (in_record i m) h = keys-there m (entry-keys i h)
keys-there (in_union m) h = keys-there m h

mutual
  unfolding keys_rise

  keys-back : (v : Value) → ((es : Entries) → MapIn es v → Rises es) → T (keys_rise v)
  keys-back (Value.Scalar k n) h = tt
  keys-back (Value.Octets k s) h = tt
  keys-back (Value.Enum i s) h = tt
  keys-back (Value.Array vs) h = items_back vs (λ v i es m. h es (in_item i m))
  keys-back (Value.Map es) h = and_i (rising es) (entry_keys_rise es) (Rises→rising (h es itself)) (entries-back es (λ v i fs m. h fs (in_map i m)))
  keys-back (Value.Record es) h = entries-back es (λ v i fs m. h fs (in_record i m))
  keys-back (Value.Union i v) h = keys-back v (λ es m. h es (in_union m))

  items_back : (vs : Values) → ((v : Value) → ItemOf v vs → (es : Entries) → MapIn es v → Rises es) → T (item_keys_rise vs)
  items_back no_items h = tt
  items_back (item v vs) h = and_i (keys_rise v) (item_keys_rise vs) (keys-back v (h v first_item)) (items_back vs (λ w i. h w (later_item i)))

  entries-back : (es : Entries) → ((v : Value) → EntryOf v es → (fs : Entries) → MapIn fs v → Rises fs) → T (entry_keys_rise es)
  entries-back no_entries h = tt
  entries-back (entry n v es) h = and_i (keys_rise v) (entry_keys_rise es) (keys-back v (h v first_entry)) (entries-back es (λ w i. h w (later_entry i)))

-- the keys of every Map in the value rise
pub keys-rise : (v : Value) → T (keys_rise v) ↔ ((es : Entries) → MapIn es v → Rises es)
keys-rise v = (λ h es m. keys-there m h, keys-back v)
