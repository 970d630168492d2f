-- The calls that a cached disk has had, the last one first.
use Rattle.std.specs.Prelude.{List, [], ◌∷◌}
use Rattle.nofs_cache.specs.declared.dirty.past.CacheCall.{CacheCall}
use Rattle.nofs_cache.specs.declared.dirty.past.CachePast.{CachePast}
use Rattle.nofs_cache.specs.declared.dirty.past.CachePast.TheOpen.{CachePast-F}
use Rattle.nofs_cache.specs.declared.dirty.past.CachePast.TheFolds.{fold-CachePast}

-- one call more
abbrev pub cache_calls_step : CachePast-F (List CacheCall) → List CacheCall
cache_calls_step CachePast-F.Start = []
cache_calls_step (CachePast-F.Made call earlier) = call ∷ earlier.value

-- the calls of a past
abbrev pub cache_calls : CachePast → List CacheCall
cache_calls = fold-CachePast (List CacheCall) cache_calls_step
