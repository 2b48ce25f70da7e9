mod MakingLemmas
mod OpeningLemmas
