mod FirstTold
