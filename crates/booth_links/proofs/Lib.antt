mod QueueLemmas
